-- The numbers of the passes stay light.
use Rattle.std.proofs.Common.{◌≡◌, ◌≢◌, ℕ, ◌+◌, ◌*◌, Bool, true, false, List, [], ◌∷◌, length, Option, Some, None, ap, sym, ◌∙◌, refl, arith, inl, inr}
use Rattle.std.specs.Prelude.{ℤ, pos, ◌==◌, if◌then◌else◌, reverse}
use Rattle.std.proofs.lemmas.Bool.Decides.{nat_tests}
use Rattle.std.proofs.lemmas.Int.{ints}
use Rattle.std.proofs.lemmas.List.{length-reverse}
use Rattle.tri_solve.specs.Passes.{pass, least_over, by_way_of, at_source, risen, distance}
use Rattle.tri_solve.specs.Passes.{IsLight}
use Rattle.tri_solve.proofs.Numbers.{none_is, some_is, lesser_is, over_is, way_is}
use Rattle.tri_solve.proofs.PassNumbers.{pass_at, pass_other}

module _ (joined : ℕ → ℕ → Bool) (bound : ℕ → ℕ → ℤ) (m : ℕ) (light : (p q : ℕ) → joined p q ≡ true → IsLight m (bound p q)) where
  pub pass_light : (start : ℕ → Option ℤ) (s : ℕ) → ((p : ℕ) (d : ℤ) → start p ≡ Some d → IsLight s d)
      → (xs : List ℕ) (p : ℕ) (d : ℤ) → pass joined bound start xs p ≡ Some d → IsLight (s + m * length xs) d
  pass_light start s small [] p d e = absurd (none_is d e)
  pass_light start s small (y ∷ ys) p d e =
      let room : m * length (y ∷ ys) ≡ m + m * length ys = grind arith in
      let rest = pass_light start s small ys in
      elim (p == y) as (λ b. (p == y) ≡ b → IsLight (s + m * length (y ∷ ys)) d) [
        | true ↦ λ t.
            let is : p ≡ y = grind (arith, nat_tests) in
            let at = sym (pass_at joined bound start y ys) ∙ ap (pass joined bound start (y ∷ ys)) (sym is) ∙ e in
            elim (lesser_is (start y) (least_over (by_way_of joined bound (pass joined bound start ys) y) ys) d at) [
              | inl h ↦ (let l = small y d h in let low = l.0 in let high = l.1 in (omega (arith, ints), omega (arith, ints)))
              | inr l ↦
                  (let some = over_is (by_way_of joined bound (pass joined bound start ys) y) ys d l in
                  let way = way_is joined bound (pass joined bound start ys) y some.0 d some.2 in
                  let before = rest some.0 way.1.0 way.1.1 in
                  let step = light some.0 y way.0 in
                  let sum = way.1.2 in
                  let a = before.0 in
                  let b = before.1 in
                  let x = step.0 in
                  let z = step.1 in
                  (omega (arith, ints), omega (arith, ints)))
            ]
        | false ↦ λ t.
            let ne : p ≢ y = grind (arith, nat_tests) in
            let before = rest p d (sym (pass_other joined bound start y p ys ne) ∙ e) in
            let a = before.0 in
            let b = before.1 in
            (omega (arith, ints), omega (arith, ints))
      ] refl

  module _ (order : List ℕ) (i : ℕ) where
    pub source_light : (p : ℕ) (d : ℤ) → at_source i p ≡ Some d → IsLight 0 d
    source_light p d e =
        (elim (p == i) as (λ b. (if b then Some (pos 0) else None) ≡ Some d → IsLight 0 d) [
          | true ↦ λ e. let is = some_is (pos 0) d e in (omega (arith, ints), omega (arith, ints))
          | false ↦ λ e. absurd (none_is d e)
        ]) e

    pub risen_light : (p : ℕ) (d : ℤ) → risen joined bound order i p ≡ Some d → IsLight (m * length order) d
    risen_light p d e =
        let l = pass_light (at_source i) 0 source_light (reverse order) p d e in
        let same : m * length (reverse order) ≡ m * length order = ap (λ n. m * n) (length-reverse order) in
        let a = l.0 in
        let b = l.1 in
        (omega (arith, ints), omega (arith, ints))

    pub distance_light : (p : ℕ) (d : ℤ) → distance joined bound order i p ≡ Some d → IsLight (2 * (m * length order)) d
    distance_light p d e =
        let l = pass_light (risen joined bound order i) (m * length order) risen_light order p d e in
        let a = l.0 in
        let b = l.1 in
        (omega (arith, ints), omega (arith, ints))
