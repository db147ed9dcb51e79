-- Each entry of a summary has a walk of the network between its ends, of the entry's weight: entry_walk. Below the horizon it is the agent's
-- own walk; at the horizon it goes from the one point to z and on to the other.
use Rattle.std.proofs.Common.{◌≡◌, ◌≢◌, ℕ, ◌+◌, ◌-◌, ◌*◌, ◌/◌, ◌<◌, true, false, ◌&&◌, nat_eq, List, [], ◌∷◌, length, Option, Some, None, if◌then◌else◌, refl}
use Rattle.std.proofs.Common.{sym, ap, subst, ◌∙◌, arith, ⊎_elim, inl, inr}
use Rattle.std.specs.Prelude.{ℤ, ◌≤ℤ◌, ◌<ℤ◌}
use Rattle.std.specs.List.{Contains, slice_get}
use Rattle.std.specs.Option.{option_map, option_eq}
use Rattle.std.proofs.lemmas.Int.{ints, clamps, by_lt_z}
use Rattle.std.proofs.lemmas.Bool.{cases_eq, and_parts, or_cases, false≢true, ne_eqb}
use Rattle.std.proofs.lemmas.Bool.Decides.{nat_tests}
use Rattle.std.proofs.lemmas.Option.{slice_get_within}
use Rattle.stn_model.specs.declared.ids.Constraint.{Constraint}
use Rattle.stn_model.specs.Net.{Net, Place, arcs_of, point_count}
use Rattle.stn_model.specs.Valid.{IsNetwork}
use Rattle.stn_model.specs.Kinds.{is_owned_by, is_shared, is_own, is_private_of}
use Rattle.stn_model.specs.Conflicts.{own_arcs}
use Rattle.stn_model.specs.ArcWalks.{IsInner, IsInnerLeast, arcs_weight}
use Rattle.stn_model.specs.Summaries.{is_seen, IsSeenPair, IsEntryWeight, entry_weight}
use Rattle.stn_model.proofs.Bridges.{arc_contained, IsArcWalk-from_inner}
use Rattle.stn_model.proofs.ArcLemmas.{upper_arc, lower_arc, arc_even, arc_odd}
use Rattle.stn_model.proofs.NetLemmas.{length-arcs_of}
use Rattle.stn_walk.proofs.ArcWalks.{GoesOn-wider}
use Rattle.stn_walk.proofs.Exits.{every}
use Rattle.meeting_arcs.specs.Sides.{HasWalk}
use Rattle.stn_model.proofs.ArcKinds.{own_lower}
use Rattle.stn_walk.proofs.PrivateArcs.{own_contained, own_listed}

-- what has an owner is in the list
listed : (places : List Place) (k agent : ℕ) (o : Option Place) → slice_get places k ≡ o → option_eq nat_eq (option_map (λ q. q.owner) o) (Some agent) ≡ true
    → k < length places
listed places k agent None e own = absurd (false≢true own)
listed places k agent (Some q) e own = slice_get_within places k q e

-- a point of an agent is a point of the network
owned_below : (net : Net) (agent p : ℕ) → p ≢ 0 → is_owned_by net agent p ≡ true → p < point_count net
owned_below net agent p other own =
    let off : nat_eq p 0 ≡ false = ne_eqb p 0 other in
    let there = listed net.places (p - 1) agent (slice_get net.places (p - 1)) refl
    (sym (ap (λ b. option_eq nat_eq (if b then None else option_map (λ q. q.owner) (slice_get net.places (p - 1))) (Some agent)) off) ∙ own) in
    omega arith

module _ (net : Net) where
  -- the two horizon arcs of a point
  pub upper_listed : (p : ℕ) → p ≢ 0 → p < point_count net → Contains (arcs_of net) (upper_arc net.horizon p)
  upper_listed p other lt =
      let is = arc_even net (2 * (p - 1)) (omega arith) (omega arith) in
      let place : 2 * (p - 1) / 2 + 1 ≡ p = omega arith in
      subst (Contains (arcs_of net)) (is ∙ ap (upper_arc net.horizon) place) (arc_contained (arcs_of net) (2 * (p - 1)) (omega (arith, length-arcs_of net)))

  pub lower_listed : (p : ℕ) → p ≢ 0 → p < point_count net → Contains (arcs_of net) (lower_arc p)
  lower_listed p other lt =
      let is = arc_odd net (2 * (p - 1) + 1) (omega arith) (omega arith) in
      let place : (2 * (p - 1) + 1) / 2 + 1 ≡ p = omega arith in
      subst (Contains (arcs_of net)) (is ∙ ap lower_arc place) (arc_contained (arcs_of net) (2 * (p - 1) + 1) (omega (arith, length-arcs_of net)))

  -- through z a walk of the horizon goes to each point but z
  horizon_walk : (i j : ℕ) → i < point_count net → j ≢ 0 → j < point_count net → HasWalk (arcs_of net) i j net.horizon
  horizon_walk i j low other lt =
      let up = upper_listed j other lt in
      ⊎_elim
      (λ (e : i ≡ 0). (upper_arc net.horizon j ∷ [], (refl, up, sym e, refl), omega (arith, ints)))
      (λ (ne : i ≢ 0).
      let down = lower_listed i ne low in
      (lower_arc i ∷ upper_arc net.horizon j ∷ [], (refl, down, refl, (refl, up, refl, refl)), omega (arith, ints)))
      (cases_eq i 0)

module _ (net : Net) (valid : IsNetwork net) (agent : ℕ) where
  -- a seen point other than z is the agent's
  seen_owned : (p : ℕ) → p ≢ 0 → is_seen net agent p ≡ true → is_owned_by net agent p ≡ true
  seen_owned p other h =
      elim (or_cases (nat_eq p 0) (is_owned_by net agent p && is_shared net p) h) [
        | inl z ↦ (let e : p ≡ 0 = grind (arith, nat_tests) in absurd (other e))
        | inr both ↦ (and_parts (is_owned_by net agent p) (is_shared net p) both).0
      ]

  seen_below : (p : ℕ) → is_seen net agent p ≡ true → p < point_count net
  seen_below p h =
      ⊎_elim
      (λ (e : p ≡ 0). omega arith)
      (λ (ne : p ≢ 0). owned_below net agent p ne (seen_owned p ne h))
      (cases_eq p 0)

  -- an own walk goes from each seen point but z to z, and weighs nothing
  down_walk : (i j : ℕ) → i ≢ j → j ≡ 0 → is_seen net agent i ≡ true → IsInner (is_private_of net agent) (own_arcs net agent) i j (lower_arc i ∷ [])
  down_walk i j apart at seen =
      let ne : i ≢ 0 = λ e. apart (e ∙ sym at) in
      let owned = seen_owned i ne seen in
      let own : is_own net agent (lower_arc i) ≡ true =
      own_lower (nat_eq i 0) (is_owned_by net agent i) true (is_owned_by net agent 0) (ne_eqb i 0 ne) owned refl in
      (own_listed net agent (lower_arc i) (lower_listed net i ne (owned_below net agent i ne owned)) own, refl, sym at)

  -- at the horizon
  at_horizon : (i j : ℕ) → IsSeenPair net agent i j → j ≢ 0 → HasWalk (arcs_of net) i j net.horizon
  at_horizon i j pair other = horizon_walk net i j (seen_below i pair.from) other (seen_below j pair.to)

  -- below it
  own_walk : (i j : ℕ) (w : List Constraint) (x : ℤ) → IsInner (is_private_of net agent) (own_arcs net agent) i j w → arcs_weight w ≡ x
      → HasWalk (arcs_of net) i j x
  own_walk i j w x h is = (
    w,
    GoesOn-wider every (own_arcs net agent) (arcs_of net) (own_contained net agent) i j w
        (IsArcWalk-from_inner (own_arcs net agent) (is_private_of net agent) i j w h),
    is,
  )

  walk_of : (i j : ℕ) (x : ℤ) (o : Option ℤ) → IsSeenPair net agent i j → IsInnerLeast (is_private_of net agent) (own_arcs net agent) i j o
      → x ≡ entry_weight net.horizon o → HasWalk (arcs_of net) i j x
  walk_of i j x None pair least is =
      ⊎_elim
      (λ (e : j ≡ 0). absurd (least (lower_arc i ∷ []) (down_walk i j pair.different e pair.from)))
      (λ (ne : j ≢ 0). subst (HasWalk (arcs_of net) i j) (sym is) (at_horizon i j pair ne))
      (cases_eq j 0)
  walk_of i j x (Some b) pair least is =
      by_lt_z net.horizon b
      (λ (high : net.horizon <ℤ b).
      let top : x ≡ net.horizon = omega (arith, ints, clamps) in
      ⊎_elim
      (λ (e : j ≡ 0).
      let light = least.1 (lower_arc i ∷ []) (down_walk i j pair.different e pair.from) in
      let positive = valid.horizon_low in
      absurd (omega (arith, ints)))
      (λ (ne : j ≢ 0). subst (HasWalk (arcs_of net) i j) (sym top) (at_horizon i j pair ne))
      (cases_eq j 0))
      (λ (low : b ≤ℤ net.horizon).
      let same : b ≡ x = omega (arith, ints, clamps) in
      own_walk i j least.0.0 x least.0.1 (least.0.2 ∙ same))

  -- the walk of an entry
  pub entry_walk : (i j : ℕ) (x : ℤ) → IsSeenPair net agent i j → IsEntryWeight net agent i j x → HasWalk (arcs_of net) i j x
  entry_walk i j x pair w = walk_of i j x w.0 pair w.1.least w.2
