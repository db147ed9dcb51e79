-- Least bounds lie within the horizon, either way, since each point lies from 0 to it: least_light.
use Rattle.std.proofs.Common.{◌≡◌, ◌≢◌, ℕ, ◌-◌, ◌*◌, ◌<◌, ◌≤◌, ⊎_elim, ℤ, pos, ◌-ℤ◌, ◌≤ℤ◌, List, ap, subst, ◌∙◌, arith}
use Rattle.std.specs.Prelude.{nat_abs}
use Rattle.std.proofs.lemmas.Bool.{cases_eq}
use Rattle.std.proofs.lemmas.Int.{ints}
use Rattle.stn_model.specs.declared.ids.Constraint.{Constraint}
use Rattle.stn_model.specs.Arcs.{arc_at}
use Rattle.stn_model.specs.Limits.{greatest_walk}
use Rattle.stn_model.specs.Net.{Net, arcs_of, point_count}
use Rattle.stn_model.specs.Schedules.{Satisfies, IsLeastBound, time_at}
use Rattle.stn_model.specs.Valid.{IsNetwork}
use Rattle.stn_model.proofs.ArcLemmas.{arc_even, arc_odd, lower_arc, upper_arc}
use Rattle.stn_model.proofs.NetLemmas.{length-arcs_of}

module _ (net : Net) (valid : IsNetwork net) where
  -- times lie from 0 to the horizon
  within_horizon : (times : List ℤ) → Satisfies (point_count net) (arcs_of net) times → (p : ℕ) → p < point_count net
      → (pos 0 ≤ℤ time_at times p) × (time_at times p ≤ℤ net.horizon)
  within_horizon times sat p within =
      let high = valid.horizon_low in
      let first = sat.first in
      ⊎_elim
      (λ (e : p ≡ 0). let t = ap (time_at times) e in (omega (arith, ints), omega (arith, ints)))
      (λ (away : p ≢ 0).
      let lower : arc_at (arcs_of net) (2 * p - 1) ≡ lower_arc p = arc_odd net (2 * p - 1) (omega arith) (omega arith) ∙ ap lower_arc (omega arith) in
      let upper : arc_at (arcs_of net) (2 * p - 2) ≡ upper_arc net.horizon p =
      arc_even net (2 * p - 2) (omega arith) (omega arith) ∙ ap (upper_arc net.horizon) (omega arith) in
      let one : (time_at times 0 -ℤ time_at times p) ≤ℤ pos 0 = subst Kept lower (sat.keeps (2 * p - 1) (omega (arith, length-arcs_of net))) in
      let two : (time_at times p -ℤ time_at times 0) ≤ℤ net.horizon = subst Kept upper (sat.keeps (2 * p - 2) (omega (arith, length-arcs_of net))) in
      (omega (arith, ints), omega (arith, ints)))
      (cases_eq p 0)
    where
      Kept : Constraint → Type 0
      Kept a = (time_at times a.to.0 -ℤ time_at times a.from.0) ≤ℤ a.bound

  -- so a least bound has at most the horizon's magnitude
  pub least_light : (i j : ℕ) → i < point_count net → j < point_count net → (b : ℤ) → IsLeastBound (point_count net) (arcs_of net) i j b
      → nat_abs b ≤ greatest_walk
  least_light i j i_in j_in b least =
      let start = within_horizon least.times least.satisfies i i_in in
      let end = within_horizon least.times least.satisfies j j_in in
      let start_low = start.0 in
      let start_high = start.1 in
      let end_low = end.0 in
      let end_high = end.1 in
      let attains = least.attains in
      let top = valid.horizon_high in
      omega (arith, ints)
