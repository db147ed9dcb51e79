-- What is known where private points are taken: forward weights, and what they are of a network.
use Rattle.std.proofs.Common.{◌≡◌, ℕ, ◌≤◌, List, [], ◌∷◌, Bool, true, false, ◌||◌, Option, Some, None, reverse, refl, sym, subst, ◌∙◌, arith}
use Rattle.std.specs.Prelude.{ℤ, ◌==◌, IfSome, nat_abs}
use Rattle.std.specs.List.{AllByRecursion, Contains}
use Rattle.std.proofs.lemmas.Bool.{false≢true}
use Rattle.std.proofs.lemmas.Bool.Decides.{nat_tests}
use Rattle.stn_model.specs.Limits.{greatest_bound, greatest_walk, most_points}
use Rattle.stn_model.specs.declared.ids.Constraint.{Constraint}
use Rattle.stn_model.specs.ArcWalks.{NoNegative, IsInner, IsInnerLeast, GoesOn}
use Rattle.stn_model.specs.Inner.{NoNegativeWithin, IsInnerWeight}
use Rattle.stn_walk.specs.Eliminations.{is_in, before_both}
use Rattle.stn_walk.proofs.Eliminations.{cell-least, before-in}
use Rattle.stn_walk.proofs.Joins.{is_in-reverse}
use Rattle.stn_walk.proofs.LightWalks.{IsBelow, HasBounds, least_light}
use Rattle.stn_walk.proofs.Visits.{inner_in}
use Rattle.elim_step.specs.Eliminated.{forward_of}
use Rattle.private_elim.specs.Locals.{LocalView, IsLocal, arcs_in, place_in, is_private_in}
use Rattle.private_elim.specs.Taken.{TakenView, HasTaken}
use Rattle.private_elim.proofs.locals.Places.{place_contained, place_missing}
use Rattle.private_elim.proofs.locals.LocalFacts.{arc_joins, points_small}

-- what holds of each number of a list holds of a number that is in it
pub in_all : (P : ℕ → Type 0) (xs : List ℕ) (p : ℕ) → AllByRecursion P xs → is_in xs p ≡ true → P p
in_all P [] p all here = absurd (false≢true here)
in_all P (x ∷ xs) p all here =
    elim (p == x) as (λ b. (p == x) ≡ b → P p) [
      | true ↦ λ t. let e : x ≡ p = grind (arith, nat_tests) in subst P e all.0
      | false ↦ λ t. in_all P xs p all.1 (rest (is_in xs p) (p == x) here t)
    ] refl
  where
    rest : (a b : Bool) → (a || b) ≡ true → b ≡ false → a ≡ true
    rest true b h f = refl
    rest false b h f = absurd (false≢true (sym f ∙ h))

-- walks through points of one set, where the other set has the same points
module _ (inner other : ℕ → Bool) (same : (p : ℕ) → inner p ≡ other p) (arcs : List Constraint) where
  inner_through : (i j : ℕ) (w : List Constraint) → IsInner inner arcs i j w → IsInner other arcs i j w
  inner_through i j w = inner_in inner other arcs i j w (λ p h. sym (same p) ∙ h)

  inner_back : (i j : ℕ) (w : List Constraint) → IsInner other arcs i j w → IsInner inner arcs i j w
  inner_back i j w = inner_in other inner arcs i j w (λ p h. same p ∙ h)

  pub none_below_through : NoNegative inner arcs → NoNegative other arcs
  none_below_through h p w g = h p w (inner_back p p w g)

  pub least_through : (i j : ℕ) (o : Option ℤ) → IsInnerLeast inner arcs i j o → IsInnerLeast other arcs i j o
  least_through i j None h = λ w g. h w (inner_back i j w g)
  least_through i j (Some b) h = ((h.0.0, inner_through i j h.0.0 h.0.1, h.0.2), λ w g. h.1 w (inner_back i j w g))

-- no closed walk is negative, so none is whose ends are in the set too
pub none_below_within : (inner : ℕ → Bool) (arcs : List Constraint) → NoNegative inner arcs → NoNegativeWithin inner arcs
none_below_within inner arcs h p w _ g = h p w g

module _ (v : LocalView) (h : IsLocal v) where
  -- no walk begins or ends at a point that is not one of the local problem
  pub none_from_strange : (inner : ℕ → Bool) (i j : ℕ) → place_in v.points i ≡ None → IsInnerLeast inner (arcs_in v) i j None
  none_from_strange inner i j missing [] g = g
  none_from_strange inner i j missing (a ∷ w) g =
      let there = place_contained v.points a.from.0 (arc_joins v h a g.0).starts in
      place_missing v.points i missing there.0 there.1 (there.2 ∙ g.1)

  strange_goes : (inner : ℕ → Bool) (j : ℕ) → place_in v.points j ≡ None → (a : Constraint) (w : List Constraint) → Contains (arcs_in v) a
      → GoesOn inner (arcs_in v) a.to.0 j w → ⊥
  strange_goes inner j missing a [] here g =
      let there = place_contained v.points a.to.0 (arc_joins v h a here).ends in
      place_missing v.points j missing there.0 there.1 (there.2 ∙ g)
  strange_goes inner j missing a (b ∷ w) here g = strange_goes inner j missing b w g.1 g.3

  pub none_to_strange : (inner : ℕ → Bool) (i j : ℕ) → place_in v.points j ≡ None → IsInnerLeast inner (arcs_in v) i j None
  none_to_strange inner i j missing [] g = g
  none_to_strange inner i j missing (a ∷ w) g = strange_goes inner j missing a w g.0 g.2

  -- inner least weights have magnitude at most 2^53
  arcs_below : IsBelow most_points (arcs_in v)
  unfolding IsBelow
  arcs_below = λ a here.
      let there = place_contained v.points a.from.0 (arc_joins v h a here).starts in
      let small = points_small v h there.0 0 there.1 in
      let is = there.2 in
      omega arith

  arcs_light : HasBounds greatest_bound (arcs_in v)
  unfolding HasBounds
  arcs_light = λ a here. let join = arc_joins v h a here in (join.low, join.high)

  pub weights_light : (inner : ℕ → Bool) (i j : ℕ) (o : Option ℤ) → NoNegative inner (arcs_in v) → IsInnerLeast inner (arcs_in v) i j o
      → IfSome o (λ w. nat_abs w ≤ greatest_walk)
  weights_light inner i j o none_below least = least_light inner (arcs_in v) most_points greatest_bound i j o arcs_below arcs_light none_below least

module _ (t : TakenView) (h : HasTaken t) where
  -- taken points are private
  pub taken_private : (p : ℕ) → is_in (reverse t.order) p ≡ true → is_private_in t.local p ≡ true
  taken_private p here = in_all (λ q. is_private_in t.local q ≡ true) t.order p h.private (sym (is_in-reverse t.order p) ∙ here)

  -- no closed walk through those before both is negative
  before_none : (i j : ℕ) → NoNegative (is_in (before_both (reverse t.order) i j)) (arcs_in t.local)
  before_none i j p w g =
      h.none_below p w (inner_in (is_in (before_both (reverse t.order) i j)) (is_in (reverse t.order)) (arcs_in t.local) p p w
      (before-in (reverse t.order) i j) g)

  -- each forward weight is an inner least weight
  pub forward_least : (i j : ℕ)
      → IsInnerLeast (is_in (before_both (reverse t.order) i j)) (arcs_in t.local) i j (forward_of (arcs_in t.local) (reverse t.order) i j)
  forward_least i j = cell-least (arcs_in t.local) (before_both (reverse t.order) i j) (before_none i j) i j

  pub inner_weight : (i j : ℕ) (o : Option ℤ) → IsInnerLeast (is_in (before_both (reverse t.order) i j)) (arcs_in t.local) i j o
      → IsInnerWeight (is_in (before_both (reverse t.order) i j)) (arcs_in t.local) i j o
  inner_weight i j o least = record {
    sound = none_below_within (is_in (before_both (reverse t.order) i j)) (arcs_in t.local) (before_none i j);
    least = least;
  }

  -- and light
  pub forward_light : (i j : ℕ) → IfSome (forward_of (arcs_in t.local) (reverse t.order) i j) (λ w. nat_abs w ≤ greatest_walk)
  forward_light i j =
      weights_light t.local h.known (is_in (before_both (reverse t.order) i j)) i j (forward_of (arcs_in t.local) (reverse t.order) i j) (before_none i j)
      (forward_least i j)
