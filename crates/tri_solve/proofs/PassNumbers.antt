-- What a pass does to the numbers, and why two passes give distances.
use Rattle.std.proofs.Common.{◌≡◌, ◌≢◌, ℕ, Bool, true, false, List, [], ◌∷◌, Option, Some, ap, sym, ◌∙◌, refl, arith, inl, inr, subst}
use Rattle.std.specs.Prelude.{ℤ, ◌+ℤ◌, ◌==◌, Contains}
use Rattle.std.proofs.lemmas.Bool.Decides.{nat_tests}
use Rattle.stn_model.specs.Walks.{AllDifferent}
use Rattle.stn_walk.specs.Eliminations.{lesser}
use Rattle.stn_walk.proofs.Finals.{IsLower}
use Rattle.stn_walk.proofs.Potentials.{lower_left, lower_right}
use Rattle.tri_solve.specs.Passes.{pass, least_over, by_way_of}
use Rattle.tri_solve.specs.Chordal.{Follows}
use Rattle.tri_solve.proofs.Lists.{contains_cases, all_at}
use Rattle.tri_solve.proofs.Orders.{follower, followed}
use Rattle.tri_solve.proofs.Numbers.{none_is, lesser_is, over_each, over_is, way_in, way_is}

module _ (joined : ℕ → ℕ → Bool) (bound : ℕ → ℕ → ℤ) (start : ℕ → Option ℤ) where
  -- the first point of the list is set last
  pub pass_at : (x : ℕ) (xs : List ℕ) → pass joined bound start (x ∷ xs) x ≡ lesser (start x) (least_over (by_way_of joined bound (pass joined bound start xs) x) xs)
  pass_at x xs = let t : (x == x) ≡ true = grind (arith, nat_tests) in rw t refl

  pub pass_other : (x p : ℕ) (xs : List ℕ) → p ≢ x → pass joined bound start (x ∷ xs) p ≡ pass joined bound start xs p
  pass_other x p xs ne = let t : (p == x) ≡ false = grind (arith, nat_tests) in rw t refl

  -- a point behind the first one keeps its number
  pub pass_behind : (x p : ℕ) (xs : List ℕ) → AllDifferent (x ∷ xs) → Contains xs p → pass joined bound start (x ∷ xs) p ≡ pass joined bound start xs p
  pass_behind x p xs d c = pass_other x p xs (λ e. all_at (λ y. x ≢ y) xs p d.0 c (sym e))

  -- no number is above that at the start
  pub pass_start : (xs : List ℕ) (p : ℕ) (x : ℤ) → Contains xs p → IsLower x (start p) → IsLower x (pass joined bound start xs p)
  pass_start [] p x c h = absurd (omega (arith, c.1))
  pass_start (y ∷ ys) p x c h =
      elim (p == y) as (λ b. (p == y) ≡ b → IsLower x (pass joined bound start (y ∷ ys) p)) [
        | true ↦ λ t.
            let e : y ≡ p = grind (arith, nat_tests) in
            subst (λ (k : ℕ). IsLower x (pass joined bound start (y ∷ ys) k)) e (subst (IsLower x) (sym (pass_at y ys))
            (lower_left x (start y) (least_over (by_way_of joined bound (pass joined bound start ys) y) ys) (subst (λ (k : ℕ). IsLower x (start k)) (sym e) h)))
        | false ↦ λ t.
            let ne : p ≢ y = grind (arith, nat_tests) in
            subst (IsLower x) (sym (pass_other y p ys ne)) (elim (contains_cases y p ys c) [
              | inl e ↦ absurd (ne (sym e))
              | inr c ↦ pass_start ys p x c h
            ])
      ] refl

  -- nor above that by way of a joined point behind
  pub pass_way : (xs : List ℕ) → AllDifferent xs → (p q : ℕ) (x : ℤ) → Follows xs p q → joined q p ≡ true
      → IsLower x (pass joined bound start xs q) → IsLower (x +ℤ bound q p) (pass joined bound start xs p)
  pass_way [] d p q x f j h = absurd f
  pass_way (y ∷ ys) d p q x (inl f) j h =
      let before = subst (IsLower x) (pass_behind y q ys d f.1) h in
      let jy : joined q y ≡ true = subst (λ (k : ℕ). joined q k ≡ true) (sym f.0) j in
      let sum = way_in joined bound (pass joined bound start ys) y q x jy before in
      let least = over_each (by_way_of joined bound (pass joined bound start ys) y) ys q (x +ℤ bound q y) f.1 sum in
      subst (λ (k : ℕ). IsLower (x +ℤ bound q k) (pass joined bound start (y ∷ ys) k)) f.0 (subst (IsLower (x +ℤ bound q y)) (sym (pass_at y ys))
      (lower_right (x +ℤ bound q y) (start y) (least_over (by_way_of joined bound (pass joined bound start ys) y) ys) least))
  pass_way (y ∷ ys) d p q x (inr f) j h =
      let before = subst (IsLower x) (pass_behind y q ys d (follower ys p q f)) h in
      subst (IsLower (x +ℤ bound q p)) (sym (pass_behind y p ys d (followed ys p q f))) (pass_way ys d.1 p q x f j before)

  -- what holds of the numbers at the start, and is handed on from point to point, holds of all numbers
  pub pass_each : (P : ℕ → ℤ → Type 0) → ((p : ℕ) (d : ℤ) → start p ≡ Some d → P p d)
      → (xs : List ℕ) → ((p q : ℕ) (d : ℤ) → Follows xs p q → joined q p ≡ true → P q d → P p (d +ℤ bound q p))
      → (p : ℕ) (d : ℤ) → pass joined bound start xs p ≡ Some d → P p d
  pass_each P starts [] on p d e = absurd (none_is d e)
  pass_each P starts (y ∷ ys) on p d e =
      let rest : (q : ℕ) (d : ℤ) → pass joined bound start ys q ≡ Some d → P q d = pass_each P starts ys (λ p q d f j h. on p q d (inr f) j h) in
      elim (p == y) as (λ b. (p == y) ≡ b → P p d) [
        | true ↦ λ t.
            let is : p ≡ y = grind (arith, nat_tests) in
            let at = sym (pass_at y ys) ∙ ap (pass joined bound start (y ∷ ys)) (sym is) ∙ e in
            subst (λ (k : ℕ). P k d) (sym is) (elim (lesser_is (start y) (least_over (by_way_of joined bound (pass joined bound start ys) y) ys) d at) [
              | inl s ↦ starts y d s
              | inr l ↦
                  (let some = over_is (by_way_of joined bound (pass joined bound start ys) y) ys d l in
                  let way = way_is joined bound (pass joined bound start ys) y some.0 d some.2 in
                  subst (P y) way.1.2 (on y some.0 way.1.0 (inl (refl, some.1)) way.0 (rest some.0 way.1.0 way.1.1)))
            ])
        | false ↦ λ t.
            let ne : p ≢ y = grind (arith, nat_tests) in
            rest p d (sym (pass_other y p ys ne) ∙ e)
      ] refl
