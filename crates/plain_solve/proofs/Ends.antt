-- What labels at which every arc holds say.
use Rattle.std.proofs.Common.{◌≡◌, ℕ, ◌<◌, ℤ, pos, ◌-ℤ◌, ◌≤ℤ◌, ◌<ℤ◌, List, length, get_or, ◌∙◌, sym, ap, subst, arith}
use Rattle.std.specs.List.{All}
use Rattle.stn_model.specs.declared.ids.Constraint.{Constraint}
use Rattle.std.proofs.lemmas.Int.{ints, by_lt_z}
use Rattle.std.proofs.lemmas.List.{get_or_default}
use Rattle.stn_model.specs.Net.{Net, arcs_of, point_count}
use Rattle.stn_model.specs.Arcs.{from_at, to_at, bound_at}
use Rattle.stn_model.specs.Times.{IsTime}
use Rattle.stn_model.specs.Schedules.{time_at, KeepsArcs}
use Rattle.stn_model.specs.Walks.{IsWalk, weight, IsNegativeClosed}
use Rattle.stn_model.proofs.WalkLemmas.{weight_bounds}
use Rattle.plain_solve.specs.declared.graph.Graph.{Graph}
use Rattle.plain_solve.specs.Graphs.{IsGraph, IsOnward}
use Rattle.plain_solve.specs.declared.labels.Labels.{Labels}
use Rattle.plain_solve.specs.LabelFacts.{IsForcing, IsBroken, Holds}
use Rattle.plain_solve.specs.Answers.{IsEarliest}

module _ (g : Graph) (times : List ℤ) (last : List ℕ) (raises : ℕ) (h : IsForcing g times last raises) where
  pub earliest : (net : Net) → IsOnward net g → KeepsArcs g.arcs.items times → IsEarliest net times
  earliest net o keeps = record {
    satisfies = record { one_each = h.one_each ∙ o.points; first = sym (ap (time_at times) o.root) ∙ h.first; keeps = subst (λ (arcs : List Constraint). KeepsArcs arcs times) o.arcs keeps };
    earliest = λ other sat p within.
        let points = o.points in
        let kept : KeepsArcs g.arcs.items other = subst (λ (arcs : List Constraint). KeepsArcs arcs other) (sym o.arcs) sat.keeps in
        let below = h.below other kept p (omega arith) in
        let root = ap (time_at other) o.root in
        let first = sat.first in
        omega (arith, ints);
  }

  pub in_range : IsGraph g → All IsTime times
  in_range valid k d lt =
      let within : k < g.points = omega (arith, h.one_each) in
      let i = h.inside k within in
      let low = i.low in
      let high = i.high in
      let top = valid.top_high in
      subst IsTime (get_or_default times k (pos 0) d lt) (record { low = omega (arith, ints); high = omega (arith, ints) })

-- an arc that is not broken holds
pub holds_unless : (g : Graph) (s : Labels) (n : ℕ) → (IsBroken g s n → ⊥) → Holds g s n
holds_unless g s n whole = by_lt_z
    (time_at s.times.items (from_at g.arcs.items n)) (time_at s.times.items (to_at g.arcs.items n) -ℤ bound_at g.arcs.items n)
    (λ (less : time_at s.times.items (from_at g.arcs.items n) <ℤ (time_at s.times.items (to_at g.arcs.items n) -ℤ bound_at g.arcs.items n)). absurd (whole less))
    (λ (more : (time_at s.times.items (to_at g.arcs.items n) -ℤ bound_at g.arcs.items n) ≤ℤ time_at s.times.items (from_at g.arcs.items n)). omega (arith, ints))
