-- From walks of arc numbers to walks of arcs, and back.
use Rattle.std.proofs.Common.{◌≡◌, ℕ, ◌<◌, ℤ, ◌+ℤ◌, ◌-ℤ◌, ◌≤ℤ◌, Bool, true, List, [], ◌∷◌, map, length, refl, sym, ap, subst, ◌∙◌}
use Rattle.std.specs.List.{Contains}
use Rattle.std.proofs.lemmas.List.{get_or_default}
use Rattle.stn_model.specs.declared.ids.Constraint.{Constraint}
use Rattle.stn_model.specs.Arcs.{arc_at, no_arc, to_at}
use Rattle.stn_model.specs.Walks.{IsWalk, weight}
use Rattle.stn_model.specs.ArcWalks.{GoesOn, IsArcWalk, IsInner, arcs_weight}
use Rattle.stn_model.specs.Schedules.{KeepsArcs, time_at}
use Rattle.stn_model.proofs.WalkLemmas.{weight_bounds}

module _ (arcs : List Constraint) where
  -- the arc of a number in range is in the list
  pub arc_contained : (n : ℕ) → n < length arcs → Contains arcs (arc_at arcs n)
  arc_contained n lt = (n, lt, get_or_default arcs n (arc_at arcs n) no_arc lt)

  -- the arcs of the numbers of a walk
  pub IsArcWalk-from_walk : (i j : ℕ) (ns : List ℕ) → IsWalk arcs i j ns → IsArcWalk arcs i j (map (arc_at arcs) ns)
  IsArcWalk-from_walk i j [] w = w
  IsArcWalk-from_walk i j (n ∷ ns) w = (refl, arc_contained n w.0, w.1, IsArcWalk-from_walk (to_at arcs n) j ns w.2)

  pub arcs_weight-map : (ns : List ℕ) → arcs_weight (map (arc_at arcs) ns) ≡ weight arcs ns
  arcs_weight-map [] = refl
  arcs_weight-map (n ∷ ns) = ap (λ s. (arc_at arcs n).bound +ℤ s) (arcs_weight-map ns)

  -- a walk through points that pass a test has numbers
  pub numbers_of : (inner : ℕ → Bool) (i j : ℕ) (w : List Constraint) → GoesOn inner arcs i j w → (ns : List ℕ) × IsWalk arcs i j ns × (map (arc_at arcs) ns ≡ w)
  numbers_of inner i j [] g = ([], g, refl)
  numbers_of inner i j (a ∷ w) g =
      let here = g.1 in
      let is : arc_at arcs here.0 ≡ a = get_or_default arcs here.0 no_arc a here.1 ∙ here.2 in
      let rest = numbers_of inner a.to.0 j w g.3 in (
        here.0 ∷ rest.0,
        (here.1, ap (λ x. x.from.0) is ∙ g.2, subst (λ (p : ℕ). IsWalk arcs p j rest.0) (sym (ap (λ x. x.to.0) is)) rest.1),
        ap (λ x. x ∷ map (arc_at arcs) rest.0) is ∙ ap (λ xs. a ∷ xs) rest.2,
      )

  -- a walk through points that pass a test is one through any points
  pub goes_any : (inner : ℕ → Bool) (i j : ℕ) (w : List Constraint) → GoesOn inner arcs i j w → IsArcWalk arcs i j w
  goes_any inner i j [] g = g
  goes_any inner i j (a ∷ w) g = (refl, g.1, g.2, goes_any inner a.to.0 j w g.3)

  pub IsArcWalk-from_inner : (inner : ℕ → Bool) (i j : ℕ) (w : List Constraint) → IsInner inner arcs i j w → IsArcWalk arcs i j w
  IsArcWalk-from_inner inner i j [] g = absurd g
  IsArcWalk-from_inner inner i j (a ∷ w) g = (refl, g.0, g.1, goes_any inner a.to.0 j w g.2)

  -- a schedule bounds the weight of each walk
  pub arcs_weight_bounds : (times : List ℤ) → KeepsArcs arcs times → (i j : ℕ) (w : List Constraint) → IsArcWalk arcs i j w
      → (time_at times j -ℤ time_at times i) ≤ℤ arcs_weight w
  arcs_weight_bounds times keeps i j w g =
      let n = numbers_of (λ _. true) i j w g in
      subst (λ s. (time_at times j -ℤ time_at times i) ≤ℤ s) (sym (arcs_weight-map n.0) ∙ ap arcs_weight n.2) (weight_bounds arcs times keeps i j n.0 n.1)

  pub inner_bounds : (times : List ℤ) → KeepsArcs arcs times → (inner : ℕ → Bool) (i j : ℕ) (w : List Constraint) → IsInner inner arcs i j w
      → (time_at times j -ℤ time_at times i) ≤ℤ arcs_weight w
  inner_bounds times keeps inner i j w g = arcs_weight_bounds times keeps i j w (IsArcWalk-from_inner inner i j w g)
