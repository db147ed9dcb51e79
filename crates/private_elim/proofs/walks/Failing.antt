-- What a point that fails shows: it is not taken, the weights between it and the other are the forward weights, and the walks of these
-- weights, one after the other, are a closed walk below 0: failing_left, failing_out, failing_back, closes_below.
use Rattle.std.proofs.Common.{◌≡◌, ℕ, true, false, List, ◌++◌, Some, refl, ◌∙◌, arith}
use Rattle.std.proofs.lemmas.Int.{ints}
use Rattle.stn_model.specs.ArcWalks.{NoNegative}
use Rattle.stn_model.specs.Walks.{IsWalk, weight, IsNegativeClosed}
use Rattle.stn_model.proofs.WalkLemmas.{IsWalk-append, weight-append}
use Rattle.stn_walk.specs.Eliminations.{is_in, cell_of}
use Rattle.stn_walk.proofs.ArcWalks.{arcs_weight-append}
use Rattle.stn_walk.proofs.Visits.{least_unique, inner_joined}
use Rattle.stn_walk.proofs.Eliminations.{cell-least}
use Rattle.elim_step.specs.Eliminated.{forward_of}
use Rattle.elim_step.proofs.Weights.{forward-whole}
use Rattle.private_elim.specs.Locals.{LocalView, arcs_in}
use Rattle.private_elim.specs.Taken.{Fails}

module _ (v : LocalView) (taken : List ℕ) (p q : ℕ) (none_below : NoNegative (is_in taken) (arcs_in v)) (h : Fails v taken p q) where
  -- a taken point does not fail: the two walks would be a closed one at the other point
  pub failing_left : is_in taken p ≡ false
  failing_left = elim (is_in taken p) as (λ b. is_in taken p ≡ b → b ≡ false) [
    | true ↦ λ here.
        let out = h.is_out.least.0 in
        let back = h.is_back.least.0 in
        let light = none_below q (back.0 ++ out.0) (inner_joined (is_in taken) (arcs_in v) q p q back.0 out.0 here back.1 out.1) in
        let sum = arcs_weight-append back.0 out.0 in
        let low = h.below in
        absurd (omega (arith, ints, out.2, back.2))
    | false ↦ λ here. refl
  ] refl

  -- the weights that sum below 0 are the forward weights
  pub failing_out : forward_of (arcs_in v) taken p q ≡ Some h.out
  failing_out =
      forward-whole (arcs_in v) taken p q failing_left h.left
      ∙ least_unique (is_in taken) (arcs_in v) p q (cell_of (arcs_in v) taken p q) (Some h.out) (cell-least (arcs_in v) taken none_below p q) h.is_out.least

  pub failing_back : forward_of (arcs_in v) taken q p ≡ Some h.back
  failing_back =
      forward-whole (arcs_in v) taken q p h.left failing_left
      ∙ least_unique (is_in taken) (arcs_in v) q p (cell_of (arcs_in v) taken q p) (Some h.back) (cell-least (arcs_in v) taken none_below q p) h.is_back.least

  -- walks of these weights, out and back
  pub closes_below : (ns ms : List ℕ) → IsWalk (arcs_in v) p q ns → Some (weight (arcs_in v) ns) ≡ forward_of (arcs_in v) taken p q
      → IsWalk (arcs_in v) q p ms → Some (weight (arcs_in v) ms) ≡ forward_of (arcs_in v) taken q p → IsNegativeClosed (arcs_in v) (ns ++ ms)
  closes_below ns ms out out_weighs back back_weighs =
      let there : weight (arcs_in v) ns ≡ h.out = (let both : Some (weight (arcs_in v) ns) ≡ Some h.out = out_weighs ∙ failing_out in cc) in
      let home : weight (arcs_in v) ms ≡ h.back = (let both : Some (weight (arcs_in v) ms) ≡ Some h.back = back_weighs ∙ failing_back in cc) in
      let sum = weight-append (arcs_in v) ns ms in
      let low = h.below in
      record { start = p; walk = IsWalk-append (arcs_in v) p q p ns ms out back; negative = omega (arith, ints) }
