-- Pairs of neighbours are the pairs that an elimination lowers.
use Rattle.std.proofs.Common.{◌≡◌, ℕ, List, Bool, true, false, ◌&&◌, ◌||◌, not, Option, Some, None, ap, sym, ◌∙◌, refl, arith}
use Rattle.std.specs.Prelude.{◌==◌, if◌then◌else◌, is_some}
use Rattle.std.proofs.lemmas.Bool.Decides.{nat_tests}
use Rattle.dist_rows.specs.declared.cell.Cell.{Cell}
use Rattle.elim_step.specs.Eliminates.{sum_through, remains, is_pair, eliminated, is_neighbour}
use Rattle.elim_step.specs.Regions.{through, region_after}

sum-none : (k : ℕ) (a : Option Cell) → sum_through k a None ≡ None
sum-none k None = refl
sum-none k (Some a) = refl

pub through-first : (k : ℕ) (f : ℕ → ℕ → Option Cell) (p q : ℕ) → f p k ≡ None → through k f p q ≡ f p q
through-first k f p q h = rw h refl

pub through-second : (k : ℕ) (f : ℕ → ℕ → Option Cell) (p q : ℕ) → f k q ≡ None → through k f p q ≡ f p q
through-second k f p q h = rw (h, sum-none k (f p k)) refl

either : (b : Bool) (x y : Option Cell) → x ≡ y → (if b then x else y) ≡ y
either true x y h = h
either false x y h = refl

or-true : (b : Bool) → (b || true) ≡ true
or-true true = refl
or-true false = refl

tests : (d a b : Bool) → ((a && true) && (b && true) && d) ≡ (d && true && true && a && b)
tests true true true = refl
tests true true false = refl
tests true false b = refl
tests false true true = refl
tests false true false = refl
tests false false b = refl

-- a place that has a cell with k is not k
apart : (f : ℕ → ℕ → Option Cell) (k p : ℕ) → f k k ≡ None → is_some (f p k) ≡ true → (p == k) ≡ false
apart f k p none here =
    elim (p == k) as (λ b. (p == k) ≡ b → b ≡ false) [
      | true ↦ λ h. let e : p ≡ k =
          grind (arith, nat_tests) in let bad : is_some (f k k) ≡ true = (rw e at here) in absurd (let s : false ≡ true = (rw none at bad) in cc)
      | false ↦ λ h. refl
    ] refl

apart_from : (f : ℕ → ℕ → Option Cell) (k q : ℕ) → f k k ≡ None → is_some (f k q) ≡ true → (q == k) ≡ false
apart_from f k q none here =
    elim (q == k) as (λ b. (q == k) ≡ b → b ≡ false) [
      | true ↦ λ h. let e : q ≡ k =
          grind (arith, nat_tests) in let bad : is_some (f k k) ≡ true = (rw e at here) in absurd (let s : false ≡ true = (rw none at bad) in cc)
      | false ↦ λ h. refl
    ] refl

pub whole : (remain : List Bool) (k : ℕ) (f : ℕ → ℕ → Option Cell) → f k k ≡ None → (p q : ℕ)
    → region_after k (λ a b. is_neighbour remain f k a && is_neighbour remain f k b) f p q ≡ eliminated remain k f p q
whole remain k f none p q =
    elim (f p k) as (λ x. f p k ≡ x → region_after k (λ a b. is_neighbour remain f k a && is_neighbour remain f k b) f p q ≡ eliminated remain k f p q) [
      | None ↦ λ h. let t = through-first k f p q h in either _ _ _ t ∙ sym (either (is_pair remain k p q) _ _ t)
      | Some a ↦ λ h. elim (f k q) as
          (λ y. f k q ≡ y → region_after k (λ a b. is_neighbour remain f k a && is_neighbour remain f k b) f p q ≡ eliminated remain k f p q) [
            | None ↦ λ e. let t = through-second k f p q e in either _ _ _ t ∙ sym (either (is_pair remain k p q) _ _ t)
            | Some b ↦ λ e.
                let at_p : is_some (f p k) ≡ true = ap is_some h in
                let at_q : is_some (f k q) ≡ true = ap is_some e in
                let near_p : is_neighbour remain f k p ≡ (remains remain p && true) =
                ap (λ z. remains remain p && z) (ap (λ z. is_some (f k p) || z) at_p ∙ or-true (is_some (f k p))) in
                let near_q : is_neighbour remain f k q ≡ (remains remain q && true) = ap (λ z. remains remain q && z) (ap (λ z. z || is_some (f q k)) at_q) in
                let same : (is_neighbour remain f k p && is_neighbour remain f k q && not (p == q)) ≡ is_pair remain k p q =
                rw (near_p, near_q, apart f k p none at_p, apart_from f k q none at_q) (tests (not (p == q)) (remains remain p) (remains remain q)) in
                ap (λ z. if z then through k f p q else f p q) same
          ] refl
    ] refl

pub none-from : (o : Option Cell) → (is_some o ≡ true → ⊥) → o ≡ None
none-from None h = refl
none-from (Some x) h = absurd (h refl)
