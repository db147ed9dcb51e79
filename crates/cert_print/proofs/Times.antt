-- Least bounds lie within the horizon, and each arc holds between them.
use Rattle.std.proofs.Common.{◌≡◌, ◌≢◌, ℕ, ◌-◌, ◌*◌, ◌<◌, ℤ, pos, neg_ℤ, ◌+ℤ◌, ◌≤ℤ◌, length, List, ap, ◌∙◌, arith, ⊎_elim}
use Rattle.std.proofs.lemmas.Bool.{cases_eq}
use Rattle.std.proofs.lemmas.Int.{ints}
use Rattle.stn_model.specs.Limits.{greatest_bound}
use Rattle.stn_model.specs.Arcs.{arc_at, from_at, to_at, bound_at}
use Rattle.stn_model.specs.Net.{Net, arcs_of, point_count}
use Rattle.stn_model.specs.Schedules.{Satisfies, IsLeastBound, time_at}
use Rattle.stn_model.specs.Valid.{IsNetwork}
use Rattle.stn_model.proofs.NetLemmas.{length-arcs_of}
use Rattle.stn_model.proofs.ArcLemmas.{arc_even, arc_odd, upper_arc, lower_arc}
use Rattle.stn_model.proofs.WalkLemmas.{weight_bounds}

module _ (net : Net) (valid : IsNetwork net) where
  not_late : (other : List ℤ) → Satisfies (point_count net) (arcs_of net) other → (p : ℕ) → p < point_count net → time_at other p ≤ℤ net.horizon
  not_late other sat p within =
      let high = valid.horizon_low in
      let first = sat.first in
      ⊎_elim
      (λ (e : p ≡ 0). let t = ap (time_at other) e in omega (arith, ints))
      (λ (away : p ≢ 0).
      let is : arc_at (arcs_of net) (2 * p - 2) ≡ upper_arc net.horizon p = arc_even net (2 * p - 2) (omega arith) (omega arith) ∙ ap (upper_arc net.horizon) (omega arith) in
      let k = sat.keeps (2 * p - 2) (omega (arith, length-arcs_of net)) in
      let f = ap (λ a. time_at other a.from.0) is in
      let t = ap (λ a. time_at other a.to.0) is in
      let b = ap (λ a. a.bound) is in
      omega (arith, ints))
      (cases_eq p 0)

  not_early : (other : List ℤ) → Satisfies (point_count net) (arcs_of net) other → (p : ℕ) → p < point_count net → pos 0 ≤ℤ time_at other p
  not_early other sat p within =
      let first = sat.first in
      ⊎_elim
      (λ (e : p ≡ 0). let t = ap (time_at other) e in omega (arith, ints))
      (λ (away : p ≢ 0).
      let is : arc_at (arcs_of net) (2 * p - 1) ≡ lower_arc p = arc_odd net (2 * p - 1) (omega arith) (omega arith) ∙ ap lower_arc (omega arith) in
      let k = sat.keeps (2 * p - 1) (omega (arith, length-arcs_of net)) in
      let f = ap (λ a. time_at other a.from.0) is in
      let t = ap (λ a. time_at other a.to.0) is in
      let b = ap (λ a. a.bound) is in
      omega (arith, ints))
      (cases_eq p 0)

  pub least_low : (i j : ℕ) (d : ℤ) → i < point_count net → j < point_count net → IsLeastBound (point_count net) (arcs_of net) i j d → neg_ℤ (pos greatest_bound) ≤ℤ d
  least_low i j d li lj h =
      let a = not_early h.times h.satisfies j lj in
      let b = not_late h.times h.satisfies i li in
      let c = h.attains in
      let top = valid.horizon_high in
      omega (arith, ints)

  pub least_high : (i j : ℕ) (d : ℤ) → i < point_count net → j < point_count net → IsLeastBound (point_count net) (arcs_of net) i j d → d ≤ℤ pos greatest_bound
  least_high i j d li lj h =
      let a = not_early h.times h.satisfies i li in
      let b = not_late h.times h.satisfies j lj in
      let c = h.attains in
      let top = valid.horizon_high in
      omega (arith, ints)

  -- a schedule attains the least bound to the end of an arc, and it keeps the arc and the least walk to its start
  pub arc_holds : (i : ℕ) (n : ℕ) (d e : ℤ) → n < length (arcs_of net)
      → IsLeastBound (point_count net) (arcs_of net) i (from_at (arcs_of net) n) d → IsLeastBound (point_count net) (arcs_of net) i (to_at (arcs_of net) n) e
      → e ≤ℤ (d +ℤ bound_at (arcs_of net) n)
  arc_holds i n d e lt h k =
      let a = k.attains in
      let b = k.satisfies.keeps n lt in
      let c = weight_bounds (arcs_of net) k.times k.satisfies.keeps i (from_at (arcs_of net) n) h.walk h.is_walk in
      let w = h.weighs in
      omega (arith, ints)
