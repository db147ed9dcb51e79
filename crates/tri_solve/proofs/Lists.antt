-- The items of a list.
use Rattle.std.proofs.Common.{◌≡◌, ℕ, zero, suc, List, [], ◌∷◌, refl, arith, inl, inr, ◌⊎◌, subst}
use Rattle.std.specs.Prelude.{Contains}
use Rattle.std.specs.List.{AllByRecursion}
use Rattle.std.proofs.lemmas.Bool.{cases_eq}
use Rattle.std.proofs.lemmas.List.Elements.{All-from_recursion, All-contains, Contains-append_right, Contains-append_cases}

-- an item of a longer list is its first one or among the others
pub contains_cases : {X : Type 0} (x y : X) (xs : List X) → Contains (x ∷ xs) y → (x ≡ y) ⊎ Contains xs y
contains_cases x y xs h =
    elim (Contains-append_cases (x ∷ []) xs y h) [
      | inl c ↦ inl (first c)
      | inr c ↦ inr c
    ] where
      first : Contains (x ∷ []) y → x ≡ y
      first (zero, lt, is) = is
      first (suc n, lt, is) = absurd (omega arith)

pub contains_first : {X : Type 0} (x : X) (xs : List X) → Contains (x ∷ xs) x
contains_first x xs = (0, omega arith, refl)

pub contains_rest : {X : Type 0} (x y : X) (xs : List X) → Contains xs y → Contains (x ∷ xs) y
contains_rest x y xs h = Contains-append_right (x ∷ []) xs y h

-- what holds of each item
pub all_at : {X : Type 0} (P : X → Type 0) (xs : List X) (y : X) → AllByRecursion P xs → Contains xs y → P y
all_at P xs y h c = All-contains P xs y (All-from_recursion P xs h) c

-- a number is in a list or it is not
pub in_or_not : (xs : List ℕ) (q : ℕ) → Contains xs q ⊎ (Contains xs q → ⊥)
in_or_not [] q = inr (λ c. omega (arith, c.1))
in_or_not (x ∷ xs) q = elim (cases_eq x q) [
  | inl e ↦ inl (subst (λ (k : ℕ). Contains (x ∷ xs) k) e (contains_first x xs))
  | inr ne ↦ elim (in_or_not xs q) [
    | inl c ↦ inl (contains_rest x q xs c)
    | inr no_c ↦ inr (λ c. elim (contains_cases x q xs c) [ inl e ↦ ne e | inr d ↦ no_c d ])
  ]
]
