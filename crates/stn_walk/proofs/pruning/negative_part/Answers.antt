use Rattle.std.proofs.Common.{◌≡◌, ℕ, ◌<◌, ◌∙◌, length, subst, arith}
use Rattle.stn_walk.proofs.Heads.{in_range}
use Rattle.stn_walk.proofs.Pruned.{IsNarrowed, IsNarrowed-step, IsNarrowed-closed, IsNarrowed-end}
use Rattle.stn_walk.proofs.pruning.negative_part.Goals as goal

pub go_on_or_close-requires-clause-range : goal.go_on_or_close-requires-clause-range
go_on_or_close-requires-clause-range g c =
    let h = c.loop-n.invariant.narrowed in
    in_range (g.A.ArcList.list c.args.arcs.now) c.arc_at-start.result.from.0 h.at c.loop-n.path.arcs h.path.walk

pub returns-in-Some-clause-cycle : goal.returns-in-Some-clause-cycle
returns-in-Some-clause-cycle g c =
    let lt : c.loop-n.n-index < length c.args.closed.now = omega arith in
    (IsNarrowed-closed (g.A.ArcList.list c.args.arcs.now) c.arc_at-start.result.from.0 c.args.closed.now c.loop-n.n-index lt c.loop-n.path c.loop-n.invariant.narrowed
    c.in-Some.part.items (rw c.in-Some.is at c.in_ok-part.ensures.goes)).0

pub returns-in-Some-clause-part : goal.returns-in-Some-clause-part
returns-in-Some-clause-part g c =
    let lt : c.loop-n.n-index < length c.args.closed.now = omega arith in
    (IsNarrowed-closed (g.A.ArcList.list c.args.arcs.now) c.arc_at-start.result.from.0 c.args.closed.now c.loop-n.n-index lt c.loop-n.path c.loop-n.invariant.narrowed
    c.in-Some.part.items (rw c.in-Some.is at c.in_ok-part.ensures.goes)).1

pub loop-n-preserved : goal.loop-n-preserved
loop-n-preserved g c =
    let lt : c.loop-n.n-index < length c.args.closed.now = omega arith in
    record {
      narrowed = IsNarrowed-step (g.A.ArcList.list c.args.arcs.now) c.arc_at-start.result.from.0 c.args.closed.now c.loop-n.n-index lt c.loop-n.path c.loop-n.invariant.narrowed
          c.go_on_or_close.new.self (rw c.in_default.is at c.in_ok-part.ensures.goes);
      room = c.in_ok-part.ensures.room ∙ c.loop-n.invariant.room;
    }

pub unreachable-requires : goal.unreachable-requires
unreachable-requires g c =
    let end : c.loop-n.n-index ≡ length c.args.closed.now = omega arith in
    IsNarrowed-end (g.A.ArcList.list c.args.arcs.now) c.arc_at-start.result.from.0 c.args.closed.now c.loop-n.path
    (subst (λ (i : ℕ). IsNarrowed (g.A.ArcList.list c.args.arcs.now) c.arc_at-start.result.from.0 c.args.closed.now i c.loop-n.path) end c.loop-n.invariant.narrowed)
