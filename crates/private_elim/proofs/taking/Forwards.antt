-- The weight that is found for two points, by their places: IsForward.
use Rattle.std.proofs.Common.{◌≡◌, ◌≢◌, ℕ, ◌<◌, Option, Some, None, length, reverse, sym, ap, subst, ◌∙◌}
use Rattle.std.specs.Prelude.{ℤ}
use Rattle.stn_model.specs.Inner.{IsInnerWeight}
use Rattle.stn_walk.specs.Eliminations.{is_in, before_both}
use Rattle.elim_step.specs.Eliminated.{forward_of, point_at}
use Rattle.private_elim.specs.Locals.{LocalView, arcs_in, place_in}
use Rattle.private_elim.specs.Taken.{TakenView, HasTaken}
use Rattle.private_elim.proofs.locals.Places.{place_found}
use Rattle.private_elim.proofs.taking.TakenFacts.{forward_least, inner_weight, none_from_strange, none_to_strange}

-- the inner weight of two points through those taken before both
abbrev pub IsForward : TakenView → ℕ → ℕ → Option ℤ → Type 0
IsForward t i j o = IsInnerWeight (is_in (before_both (reverse t.order) i j)) (arcs_in t.local) i j o

module _ (t : TakenView) (h : HasTaken t) (v : LocalView) (same : v ≡ t.local) where
  -- a place of a point, in the local problem that was looked at
  pub place_within : (i a : ℕ) → place_in v.points i ≡ Some a → (a < length t.local.points) × (point_at t.local.points a ≡ i)
  place_within i a is = place_found t.local.points i a (ap (λ w. place_in w.points i) (sym same) ∙ is)

  -- none where a point is not one of it
  pub forward_from_strange : (i j : ℕ) (o : Option ℤ) → o ≡ None → place_in v.points i ≡ None → IsForward t i j o
  forward_from_strange i j o none missing =
      let found : place_in t.local.points i ≡ None = ap (λ w. place_in w.points i) (sym same) ∙ missing in
      subst (IsForward t i j) (sym none) (inner_weight t h i j None (none_from_strange t.local h.known (is_in (before_both (reverse t.order) i j)) i j found))

  pub forward_to_strange : (i j : ℕ) (o : Option ℤ) → o ≡ None → place_in v.points j ≡ None → IsForward t i j o
  forward_to_strange i j o none missing =
      let found : place_in t.local.points j ≡ None = ap (λ w. place_in w.points j) (sym same) ∙ missing in
      subst (IsForward t i j) (sym none) (inner_weight t h i j None (none_to_strange t.local h.known (is_in (before_both (reverse t.order) i j)) i j found))

  -- and else that of their places
  pub forward_between : (i j a b : ℕ) (o : Option ℤ) → place_in v.points i ≡ Some a → place_in v.points j ≡ Some b
      → (a ≢ b → o ≡ forward_of (arcs_in t.local) (reverse t.order) (point_at t.local.points a) (point_at t.local.points b)) → i ≢ j → IsForward t i j o
  forward_between i j a b o from to value apart =
      let x = place_within i a from in
      let y = place_within j b to in
      let differ : a ≢ b = λ e. apart (sym x.1 ∙ ap (point_at t.local.points) e ∙ y.1) in
      let is : o ≡ forward_of (arcs_in t.local) (reverse t.order) i j =
      value differ ∙ ap (λ p. forward_of (arcs_in t.local) (reverse t.order) p (point_at t.local.points b)) x.1
      ∙ ap (λ p. forward_of (arcs_in t.local) (reverse t.order) i p) y.1 in
      subst (IsForward t i j) (sym is) (inner_weight t h i j (forward_of (arcs_in t.local) (reverse t.order) i j) (forward_least t h i j))
