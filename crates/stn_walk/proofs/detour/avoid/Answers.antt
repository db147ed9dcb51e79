use Rattle.std.proofs.Common.{◌≡◌, ◌+◌, ◌<◌, ◌∙◌, ℕ, length, false, get_or, sym, subst, arith}
use Rattle.std.specs.List.{All}
use Rattle.std.proofs.lemmas.List.{get_or_default}
use Rattle.stn_model.specs.Net.{arcs_of}
use Rattle.stn_walk.specs.Detours.{Avoids}
use Rattle.stn_walk.proofs.Detours.{IsRerouted, listed_in_range, next_in, unflagged_avoids, IsRerouted-same, IsRerouted-round, IsRerouted-end}
use Rattle.stn_walk.proofs.detour.avoid.Goals as goal
use Rattle.stn_walk.proofs.detour.avoid.Goals.{then-index+in_ok-push_detour, else-index+in_ok-push}

pub flags_of-requires : goal.flags_of-requires
flags_of-requires c = subst (λ m. All (λ n. n < m) c.args.withdrawn.now) (sym c.arcs.ensures.count) (listed_in_range c.args.net.now c.args.withdrawn.now c.requires.withdrawn)

pub arc-requires : goal.arc-requires
arc-requires c =
    next_in (arcs_of c.args.net.now) c.args.from.0 c.args.to.0 c.arcs-arcs.result.now c.args.withdrawn.now c.loop-n.n-index c.loop-n.round.items (omega arith) c.loop-n.invariant

pub index-requires : goal.index-requires
index-requires c =
    let size = c.in_ok-listed.ensures.size in
    let count = c.arcs.ensures.count in
    let len = c.in_ok-listed.listed.ok.0 in
    let there = next_in (arcs_of c.args.net.now) c.args.from.0 c.args.to.0 c.arcs-arcs.result.now c.args.withdrawn.now c.loop-n.n-index c.loop-n.round.items c.loop-n-test.true
    c.loop-n.invariant in
    omega arith

pub loop-n-preserved : goal.loop-n-preserved
loop-n-preserved c =
    let list = arcs_of c.args.net.now in
    let ns = c.arcs-arcs.result.now in
    let listed = c.args.withdrawn.now in
    let i = c.loop-n.n-index in
    let round = c.loop-n.round.items in
    let lt : i < length ns = c.loop-n-test.true in
    let marks = c.in_ok-listed.ensures in
    let flags = c.in_ok-listed.listed.items in
    let size = marks.size in
    let count = c.arcs.ensures.count in
    let there = next_in list c.args.from.0 c.args.to.0 ns listed i round lt c.loop-n.invariant in
    let read : get_or flags (get_or ns i 0) false ≡ c.index.result.now = get_or_default flags (get_or ns i 0) false c.index.result.now (omega arith) ∙ sym c.index.ensures in
    elim c.if-index.branch [
      | then-index+in_ok-push_detour w ↦
          subst (λ v. IsRerouted list c.args.from.0 c.args.to.0 ns listed (i + 1) v.items) (sym w.round-is)
          (IsRerouted-round c.args.net.now listed c.requires.withdrawn c.arcs.ensures.valid c.args.from.0 c.args.to.0 ns i round lt c.loop-n.invariant
          c.arcs.result flags marks (read ∙ w.if-index.true) w.arc.result w.arc.ensures.arc w.arc.ensures.within w.push_detour.new.walk.items w.in_ok-push_detour.ensures)
      | else-index+in_ok-push w ↦
          subst (λ v. IsRerouted list c.args.from.0 c.args.to.0 ns listed (i + 1) v.items) (sym w.round-is)
          (IsRerouted-same list c.args.from.0 c.args.to.0 ns listed i round lt c.loop-n.invariant
          (unflagged_avoids c.args.net.now listed c.requires.withdrawn c.arcs.result (get_or ns i 0) flags marks (read ∙ w.if-index.false)) w.push.new.self.items w.in_ok-push.ensures.items)
    ]

pub returns-clause-avoids : goal.returns-clause-avoids
returns-clause-avoids c =
    subst (Avoids c.args.withdrawn.now) (sym c.new.ensures)
    (IsRerouted-end (arcs_of c.args.net.now) c.args.from.0 c.args.to.0 c.arcs-arcs.result.now c.args.withdrawn.now c.loop-n.n-index c.loop-n.round.items c.loop-n-test.false c.loop-n.invariant).2
