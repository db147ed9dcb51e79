-- Where all arcs join z and points of an order, a closed walk that is negative shows one that passes only points of the order between its
-- ends: whole_none_below.
use Rattle.std.proofs.Common.{◌≡◌, ◌≢◌, ℕ, Bool, true, false, List, [], ◌∷◌, Option, Some, None, sym, ap, ◌∙◌, arith, inl, inr}
use Rattle.std.specs.Prelude.{ℤ, ◌==◌}
use Rattle.std.specs.List.{Contains}
use Rattle.std.proofs.lemmas.Bool.{false≢true, or_cases}
use Rattle.std.proofs.lemmas.Bool.Decides.{nat_tests}
use Rattle.stn_model.specs.declared.ids.Constraint.{Constraint}
use Rattle.stn_model.specs.ArcWalks.{GoesOn, IsInner, IsInnerLeast, NoNegative}
use Rattle.stn_walk.specs.Eliminations.{is_in, cell_of, IsNotBelow}
use Rattle.stn_walk.proofs.Eliminations.{cell-least, stays}
use Rattle.stn_walk.proofs.Exits.{every}

-- a walk leaves only points where arcs begin
goes_in : (inner : ℕ → Bool) (arcs : List Constraint) (m j : ℕ) (w : List Constraint) → ((a : Constraint) → Contains arcs a → inner a.from.0 ≡ true)
    → GoesOn every arcs m j w → GoesOn inner arcs m j w
goes_in inner arcs m j [] has h = h
goes_in inner arcs m j (a ∷ w) has h = (ap inner (sym h.2) ∙ has a h.1, h.1, h.2, goes_in inner arcs a.to.0 j w has h.3)

pub inner_in : (inner : ℕ → Bool) (arcs : List Constraint) (i j : ℕ) (w : List Constraint) → ((a : Constraint) → Contains arcs a → inner a.from.0 ≡ true)
    → IsInner every arcs i j w → IsInner inner arcs i j w
inner_in inner arcs i j [] has h = absurd h
inner_in inner arcs i j (a ∷ w) has h = (h.0, h.1, goes_in inner arcs a.to.0 j w has h.2)

module _ (arcs : List Constraint) (order : List ℕ) (k : ℕ) (starts : (a : Constraint) → Contains arcs a → is_in (k ∷ order) a.from.0 ≡ true) where
  -- no walk begins at another point
  none_starts : (p j : ℕ) (w : List Constraint) → is_in order p ≡ false → p ≢ k → IsInner (is_in order) arcs p j w → ⊥
  none_starts p j [] out apart h = h
  none_starts p j (a ∷ w) out apart h =
      elim (or_cases (is_in order a.from.0) (a.from.0 == k) (starts a h.0)) [
        | inl inside ↦ false≢true (sym out ∙ ap (is_in order) (sym h.1) ∙ inside)
        | inr last ↦ (let e : a.from.0 ≡ k = grind (arith, nat_tests) in apart (sym h.1 ∙ e))
      ]

  none_there : (p j : ℕ) (o q : Option ℤ) → is_in order p ≡ false → p ≢ k → IsInnerLeast (is_in order) arcs p j o → IsNotBelow o q
  none_there p j None q out apart least = tt
  none_there p j (Some b) q out apart least = absurd (none_starts p j least.0.0 out apart least.0.1)

  -- with the last point, which no other point outside has a cell to, all points are eliminated
  pub whole_none_below : NoNegative (is_in order) arcs → NoNegative every arcs
  whole_none_below none_below = λ p w h.
      stays arcs order k none_below (λ q out apart. none_there q k (cell_of arcs order q k) (cell_of arcs order k q) out apart
      (cell-least arcs order none_below q k))
      p w (inner_in (is_in (k ∷ order)) arcs p p w starts h)
