-- Membership in a list of numbers, and what holds of each item.
--   is_in-first, is_in-rest, is_in-behind   of the first, of the others, and of what follows a part
--   is_in-push, is_in-maybe                 of one item more at the end, always or where it is wanted
--   is_in-next, is_in-cases                 of a prefix with its next item
--   is_in-take, is_in-prefix                a prefix has no more
--   is_in-at, is_in-apart                   each item is in it; members differ from what is not in it
--   AllByRecursion-append                   of one list after another
use Rattle.std.proofs.Common.{zero, suc, ◌≡◌, ◌≢◌, ℕ, ◌+◌, ◌<◌, List, [], ◌∷◌, ◌++◌, Bool, true, false, ◌||◌, ◌&&◌, ap, sym, ◌∙◌, refl, length, take}
use Rattle.std.proofs.Common.{get_or, arith, append-nil, inl, inr}
use Rattle.std.specs.Prelude.{◌==◌, if◌then◌else◌}
use Rattle.std.specs.List.{AllByRecursion}
use Rattle.std.proofs.Math.Bool.{or-true, or-false, or_comm}
use Rattle.std.proofs.lemmas.Bool.{eq-eqb, ne_eqb, or_cases, false≢true}
use Rattle.std.proofs.lemmas.Bool.Decides.{nat_tests}
use Rattle.std.proofs.lemmas.List.{take_more}
use Rattle.stn_walk.specs.Eliminations.{is_in}

-- the first of a list is in it
pub is_in-first : (k : ℕ) (xs : List ℕ) → is_in (k ∷ xs) k ≡ true
is_in-first k xs = ap (λ b. is_in xs k || b) (eq-eqb k k refl) ∙ or-true (is_in xs k)

-- another is where the rest has it
pub is_in-rest : (k : ℕ) (xs : List ℕ) (p : ℕ) → p ≢ k → is_in (k ∷ xs) p ≡ is_in xs p
is_in-rest k xs p apart = ap (λ b. is_in xs p || b) (ne_eqb p k apart) ∙ or-false (is_in xs p)

-- what the rest has, the whole has
pub is_in-behind : (ds xs : List ℕ) (p : ℕ) → is_in xs p ≡ true → is_in (ds ++ xs) p ≡ true
is_in-behind [] xs p h = h
is_in-behind (d ∷ ds) xs p h = ap (λ b. b || (p == d)) (is_in-behind ds xs p h)

pub is_in-push : (xs : List ℕ) (k p : ℕ) → is_in (xs ++ k ∷ []) p ≡ (is_in xs p || (p == k))
is_in-push [] k p = refl
is_in-push (x ∷ xs) k p = ap (λ b. b || (p == x)) (is_in-push xs k p) ∙ swapped (is_in xs p) (p == k) (p == x) where
  swapped : (a b c : Bool) → ((a || b) || c) ≡ ((a || c) || b)
  swapped true b c = refl
  swapped false b c = or_comm b c

pub is_in-maybe : (xs : List ℕ) (n p : ℕ) (wanted : Bool) → is_in (xs ++ (if wanted then n ∷ [] else [])) p ≡ (is_in xs p || (wanted && (p == n)))
is_in-maybe xs n p true = is_in-push xs n p
is_in-maybe xs n p false = ap (λ ys. is_in ys p) (append-nil xs) ∙ sym (or-false (is_in xs p))

-- a prefix with its next item
pub is_in-next : (xs : List ℕ) (n p : ℕ) → n < length xs → (is_in (take n xs) p || (p == get_or xs n 0)) ≡ is_in (take (n + 1) xs) p
is_in-next xs n p low = sym (is_in-push (take n xs) (get_or xs n 0) p) ∙ ap (λ ys. is_in ys p) (sym (take_more xs n 0 low))

-- each item is in the list
pub is_in-at : (xs : List ℕ) (k : ℕ) → k < length xs → is_in xs (get_or xs k 0) ≡ true
is_in-at [] k lt = absurd (omega arith)
is_in-at (x ∷ xs) zero lt = is_in-first x xs
is_in-at (x ∷ xs) (suc k) lt = ap (λ b. b || (get_or xs k 0 == x)) (is_in-at xs k (omega arith))

-- what is not in a list is in no prefix of it
pub is_in-take : (xs : List ℕ) (n k : ℕ) → is_in xs k ≡ false → is_in (take n xs) k ≡ false
is_in-take [] zero k h = refl
is_in-take [] (suc n) k h = refl
is_in-take (x ∷ xs) zero k h = refl
is_in-take (x ∷ xs) (suc n) k h = (λ t. is_in-take xs n k (neither (is_in xs k) (k == x) h).0 t || (neither (is_in xs k) (k == x) h).1 t) where
  neither : (a b : Bool) → (a || b) ≡ false → (a ≡ false) × (b ≡ false)
  neither true b h = absurd (cc)
  neither false b h = (refl, h)

-- what a prefix of a list has, the list has
pub is_in-prefix : (xs : List ℕ) (n p : ℕ) → is_in (take n xs) p ≡ true → is_in xs p ≡ true
is_in-prefix xs n p here =
    elim (is_in xs p) as (λ b. is_in xs p ≡ b → b ≡ true) [
      | true ↦ λ t. refl
      | false ↦ λ t. absurd (false≢true (sym (is_in-take xs n p t) ∙ here))
    ] refl

-- a member is not what is not in the list
pub is_in-apart : (xs : List ℕ) (i k : ℕ) → is_in xs i ≡ true → is_in xs k ≡ false → i ≢ k
is_in-apart xs i k here away same = absurd (let e : is_in xs k ≡ true = (rw same at here) in cc)

-- what is in a prefix of one item more is in the prefix, or is that item
pub is_in-cases : {P : Type 0} (q : ℕ) (xs : List ℕ) (n : ℕ) → n < length xs → is_in (take (n + 1) xs) q ≡ true
    → (is_in (take n xs) q ≡ true → P) → (q ≡ get_or xs n 0 → P) → P
is_in-cases {P} q xs n low here in_prefix last =
    let either : (is_in (take n xs) q || (q == get_or xs n 0)) ≡ true = is_in-next xs n q low ∙ here in
    elim (or_cases (is_in (take n xs) q) (q == get_or xs n 0) either) [
      | inl before ↦ in_prefix before
      | inr same ↦ last (grind (arith, nat_tests))
    ]

-- what holds of each item of two lists holds of each of both in turn
pub AllByRecursion-append : {X : Type 0} (P : X → Type 0) (xs ys : List X) → AllByRecursion P xs → AllByRecursion P ys → AllByRecursion P (xs ++ ys)
AllByRecursion-append P [] ys h g = g
AllByRecursion-append P (x ∷ xs) ys h g = (h.0, AllByRecursion-append P xs ys h.1 g)
