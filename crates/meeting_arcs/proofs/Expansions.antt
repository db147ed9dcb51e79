-- Where each arc of a list has a walk of its weight over another, so has each walk: walk_expands, closed_expands, negative_expands.
use Rattle.std.proofs.Common.{ℕ, pos, ◌≤ℤ◌, List, [], ◌∷◌, ◌++◌, refl, subst, arith}
use Rattle.std.proofs.lemmas.Int.{ints}
use Rattle.stn_model.specs.declared.ids.Constraint.{Constraint}
use Rattle.stn_model.specs.ArcWalks.{IsArcWalk, NoNegative, arcs_weight}
use Rattle.stn_model.proofs.Bridges.{IsArcWalk-from_inner}
use Rattle.stn_walk.proofs.ArcWalks.{GoesOn-append, arcs_weight-append}
use Rattle.stn_walk.proofs.Exits.{every}
use Rattle.meeting_arcs.specs.Sides.{HasWalk, Expands, NegativeClosed}

-- a closed walk, which may be empty, is not negative where none that is not empty is
pub closed_light : (arcs : List Constraint) → NoNegative every arcs → (p : ℕ) (w : List Constraint) → IsArcWalk arcs p p w → pos 0 ≤ℤ arcs_weight w
closed_light arcs none_below p [] h = omega (arith, ints)
closed_light arcs none_below p (a ∷ w) h = none_below p (a ∷ w) (h.1, h.2, h.3)

module _ (more arcs : List Constraint) (each : Expands more arcs) where
  -- the walks of the arcs, one after the other
  pub walk_expands : (i j : ℕ) (w : List Constraint) → IsArcWalk more i j w → HasWalk arcs i j (arcs_weight w)
  walk_expands i j [] h = ([], h, refl)
  walk_expands i j (a ∷ w) h =
      let first = each a h.1 in
      let rest = walk_expands a.to.0 j w h.3 in
      let start = subst (λ (p : ℕ). IsArcWalk arcs p a.to.0 first.0) h.2 first.1 in
      let sum = arcs_weight-append first.0 rest.0 in
      let one = first.2 in
      let others = rest.2 in
      (first.0 ++ rest.0, GoesOn-append every arcs i a.to.0 j first.0 rest.0 start rest.1, omega (arith, ints))

  -- so a negative closed walk over the first list gives one over the second
  pub negative_expands : NegativeClosed more → NegativeClosed arcs
  negative_expands n =
      let v = walk_expands n.start n.start n.walk n.closed in
      let sum = v.2 in
      let low = n.negative in
      record { start = n.start; walk = v.0; closed = v.1; negative = omega (arith, ints) }

  -- and none is negative where none is over the second
  pub closed_expands : NoNegative every arcs → NoNegative every more
  closed_expands none_below = λ p w h.
      let v = walk_expands p p w (IsArcWalk-from_inner more every p p w h) in
      let light = closed_light arcs none_below p v.0 v.1 in
      let sum = v.2 in
      omega (arith, ints)
