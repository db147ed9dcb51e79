use Rattle.std.proofs.Common.{to_z, of_z, w64, ◌≡◌, ◌<◌, ◌+◌, ℕ, ℤ, List, pos, ◌-ℤ◌, ◌<ℤ◌, ◌≤ℤ◌, set, inl, inr, refl, sym, ap, subst, ◌∙◌, arith}
use Rattle.std.proofs.lemmas.Int.{ints}
use Rattle.stn_model.specs.Arcs.{from_at, to_at, bound_at}
use Rattle.stn_model.specs.Schedules.{time_at}
use Rattle.plain_solve.specs.LabelFacts.{IsForcing}
use Rattle.plain_solve.proofs.Refutes.{read_arc, read_label, few}
use Rattle.plain_solve.proofs.Raises.{raised}
use Rattle.plain_solve.proofs.labels.raise.Goals as goal
use Rattle.plain_solve.proofs.labels.raise.Goals.{then-arc-graph-via-then-arc-graph, then-arc-graph-via-else-arc-graph+then-time-graph}

pub overflow_sub-time : goal.overflow_sub-time
overflow_sub-time c =
    let s = c.args.labels.now in
    let g = c.args.graph.now in
    let r = read_arc g c.requires.graph c.args.n c.arc-arc.result c.requires.arc c.arc-arc.ensures.arc in
    let h = read_label g s.times.items s.last_arcs.items s.raises c.requires.forced c.requires.graph c.arc-arc.result.to.0 c.index-head.result.now r.to_in c.index-head.ensures in
    omega (arith, ints)

pub returns-then-arc-graph-clause-answer : goal.returns-then-arc-graph-clause-answer
returns-then-arc-graph-clause-answer c =
    let s = c.args.labels.now in
    let g = c.args.graph.now in
    let r = read_arc g c.requires.graph c.args.n c.arc-arc.result c.requires.arc c.arc-arc.ensures.arc in
    let h = read_label g s.times.items s.last_arcs.items s.raises c.requires.forced c.requires.graph c.arc-arc.result.to.0 c.index-head.result.now r.to_in c.index-head.ensures in
    let head = ap (time_at s.times.items) r.to_is ∙ h.label in
    let bound_is = r.bound_is in
    let from_is = r.from_is in
    record {
      within = c.requires.arc;
      over = elim c.then-arc-graph.branch [
        | then-arc-graph-via-then-arc-graph w ↦
            let root = w.if-arc-graph.true in
            let broken = c.requires.broken in
            let tail = ap (time_at s.times.items) (from_is ∙ root) in
            let first = c.requires.forced.first in
            inl (from_is ∙ root, omega (arith, ints))
        | then-arc-graph-via-else-arc-graph+then-time-graph w ↦
            let other = w.if-arc-graph.false in
            let over = w.if-time-graph.true in
            inr (omega arith, omega (arith, ints))
      ];
    }

pub set_label-requires-clause-few : goal.set_label-requires-clause-few
set_label-requires-clause-few c =
    let s = c.args.labels.now in
    let g = c.args.graph.now in
    let r = read_arc g c.requires.graph c.args.n c.arc-arc.result c.requires.arc c.arc-arc.ensures.arc in
    let h = read_label g s.times.items s.last_arcs.items s.raises c.requires.forced c.requires.graph c.arc-arc.result.to.0 c.index-head.result.now r.to_in c.index-head.ensures in
    let head = ap (time_at s.times.items) r.to_is ∙ h.label in
    let tail = ap (time_at s.times.items) r.from_is in
    let bound_is = r.bound_is in
    let broken = c.requires.broken in
    few g s.times.items s.last_arcs.items s.raises c.requires.forced c.requires.graph c.arc-arc.result.from.0 r.from_in (omega (arith, ints))

pub returns-clause-forced : goal.returns-clause-forced
returns-clause-forced c =
    let s = c.args.labels.now in
    let g = c.args.graph.now in
    let n = c.args.n in
    let a = c.arc-arc.result in
    let r = read_arc g c.requires.graph n a c.requires.arc c.arc-arc.ensures.arc in
    let h = read_label g s.times.items s.last_arcs.items s.raises c.requires.forced c.requires.graph a.to.0 c.index-head.result.now r.to_in c.index-head.ensures in
    let head = h.label in
    let end = ap (time_at s.times.items) r.to_is in
    let tail = ap (time_at s.times.items) r.from_is in
    let bound_is = r.bound_is in
    let broken = c.requires.broken in
    let other = c.if-arc-graph.false in
    let e = c.set_label.ensures in
    let t : ℤ = to_z w64 (of_z w64 (to_z w64 (of_z w64 c.index-head.result.now) -ℤ to_z w64 (of_z w64 a.bound))) in
    subst (λ (ts : List ℤ). IsForcing g ts c.set_label.new.labels.last_arcs.items c.set_label.new.labels.raises) (sym e.times)
    (subst (λ (ls : List ℕ). IsForcing g (set s.times.items a.from.0 t) ls c.set_label.new.labels.raises) (sym e.last)
    (subst (λ (k : ℕ). IsForcing g (set s.times.items a.from.0 t) (set s.last_arcs.items a.from.0 n) k) (sym e.raises)
    (raised g s.times.items s.last_arcs.items s.raises c.requires.forced c.requires.graph
    n a.from.0 a.to.0 a.bound t c.requires.arc r.from_is r.to_is r.bound_is
    (omega (arith, ints)) (omega (arith, ints)) (omega (arith, ints)) other)))
