-- Least bounds from a point, less that of z, are a schedule.
use Rattle.std.proofs.Common.{◌≡◌, ℕ, ◌<◌, List, length, ◌∙◌, refl, arith, subst}
use Rattle.std.specs.Prelude.{ℤ, pos, ◌-ℤ◌, ◌+ℤ◌, ◌≤ℤ◌}
use Rattle.std.proofs.Math.ListN.{get_or-map}
use Rattle.std.proofs.lemmas.Int.{ints}
use Rattle.std.proofs.lemmas.List.{get_or_default}
use Rattle.stn_model.specs.declared.ids.Constraint.{Constraint}
use Rattle.stn_model.specs.Arcs.{arc_at, from_at, to_at, bound_at}
use Rattle.stn_model.specs.Net.{Net, point_count, arcs_of}
use Rattle.stn_model.specs.Valid.{IsNetwork}
use Rattle.stn_model.specs.Schedules.{Satisfies, IsLeastBound, time_at}
use Rattle.stn_model.proofs.Bridges.{arc_contained}
use Rattle.stn_model.proofs.NetLemmas.{length-map}
use Rattle.stn_model.proofs.WalkLemmas.{weight_bounds}
use Rattle.stn_walk.proofs.Distances.{network_ends}
use Rattle.tri_solve.specs.Trees.{Tree, dist_of, times_of, AreLeastFrom}

module _ (t : Tree) where
  pub time_is : (p : ℕ) → p < length t.dists → time_at (times_of t) p ≡ dist_of t p -ℤ dist_of t 0
  time_is p lt =
      let some : pos 0 ≡ pos 0 = refl in
      get_or_default (times_of t) p (pos 0) (pos 0 -ℤ dist_of t 0) (let n = length-map (λ (d : ℤ). d -ℤ dist_of t 0) t.dists in omega arith)
      ∙ get_or-map (λ (d : ℤ). d -ℤ dist_of t 0) t.dists p (pos 0)

  module _ (net : Net) (is : IsNetwork net) (h : AreLeastFrom net t) where
    abbrev arcs : List Constraint
    arcs = arcs_of net

    -- a distance is at most that of the point before an arc and the arc's bound: else the schedule that attains it breaks the arc
    keeps_arc : (n : ℕ) → n < length arcs → dist_of t (to_at arcs n) ≤ℤ (dist_of t (from_at arcs n) +ℤ bound_at arcs n)
    keeps_arc n lt =
        let ends = network_ends net is (arc_at arcs n) (arc_contained arcs n lt) in
        let to = h.least (to_at arcs n) ends.1 in
        let from = h.least (from_at arcs n) ends.0 in
        let walked = weight_bounds arcs to.times to.satisfies.keeps t.source (from_at arcs n) from.walk from.is_walk in
        let kept = to.satisfies.keeps n lt in
        let weighs = from.weighs in
        let attains = to.attains in
        omega (arith, ints)

    pub times_satisfy : Satisfies (point_count net) (arcs_of net) (times_of t)
    times_satisfy = record {
      one_each = length-map (λ (d : ℤ). d -ℤ dist_of t 0) t.dists ∙ h.one_each;
      first = (let m = h.one_each in let e = time_is 0 (omega arith) in omega (arith, ints));
      keeps = λ n lt.
          let ends = network_ends net is (arc_at arcs n) (arc_contained arcs n lt) in
          let m = h.one_each in
          let u = time_is (from_at arcs n) (omega (arith, ends.0)) in
          let v = time_is (to_at arcs n) (omega (arith, ends.1)) in
          let k = keeps_arc n lt in
          omega (arith, ints);
    }

    -- and the times lie as far after the source as the distances say
    pub times_attain : t.source < length t.dists → dist_of t t.source ≡ pos 0 → (p : ℕ) → p < point_count net
        → IsLeastBound (point_count net) (arcs_of net) t.source p (time_at (times_of t) p -ℤ time_at (times_of t) t.source)
    times_attain here zero p lt =
        let m = h.one_each in
        let u = time_is t.source here in
        let v = time_is p (omega arith) in
        subst (IsLeastBound (point_count net) (arcs_of net) t.source p) (omega (arith, ints)) (h.least p lt)
