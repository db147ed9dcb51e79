-- The items of a list, of its rest, and of what a test keeps of it: contains_cases, contains_first, contains_rest, kept_listed, kept_passes,
-- all_at, range_lists.
use Rattle.std.proofs.Common.{◌≡◌, ℕ, zero, suc, ◌<◌, Bool, true, List, [], ◌∷◌, refl, arith, inl, inr, ◌⊎◌}
use Rattle.std.specs.Prelude.{Contains, filter}
use Rattle.std.specs.List.{AllByRecursion, range_with_len}
use Rattle.std.proofs.lemmas.List.Elements.{All-from_recursion, All-contains, All-filter, All-contains_itself, filter_passes}
use Rattle.std.proofs.lemmas.List.Elements.{Contains-append_right, Contains-append_cases}
use Rattle.std.proofs.lemmas.List.FromFn.{get_or-range_with_len, length-range_with_len}

-- an item of a longer list is its first one or among the others
pub contains_cases : {X : Type 0} (x y : X) (xs : List X) → Contains (x ∷ xs) y → (x ≡ y) ⊎ Contains xs y
contains_cases x y xs h =
    elim (Contains-append_cases (x ∷ []) xs y h) [
      | inl c ↦ inl (first c)
      | inr c ↦ inr c
    ] where
      first : Contains (x ∷ []) y → x ≡ y
      first (zero, lt, is) = is
      first (suc n, lt, is) = absurd (omega arith)

pub contains_first : {X : Type 0} (x : X) (xs : List X) → Contains (x ∷ xs) x
contains_first x xs = (0, omega arith, refl)

pub contains_rest : {X : Type 0} (x y : X) (xs : List X) → Contains xs y → Contains (x ∷ xs) y
contains_rest x y xs h = Contains-append_right (x ∷ []) xs y h

-- what a test keeps is in the list and passes
pub kept_listed : {X : Type 0} (p : X → Bool) (xs : List X) (y : X) → Contains (filter p xs) y → Contains xs y
kept_listed p xs y h = All-contains (Contains xs) (filter p xs) y (All-filter p (Contains xs) xs (All-contains_itself xs)) h

pub kept_passes : {X : Type 0} (p : X → Bool) (xs : List X) (y : X) → Contains (filter p xs) y → p y ≡ true
kept_passes p xs y h = All-contains (λ x. p x ≡ true) (filter p xs) y (filter_passes p xs) h

-- what holds of each item
pub all_at : {X : Type 0} (P : X → Type 0) (xs : List X) (y : X) → AllByRecursion P xs → Contains xs y → P y
all_at P xs y h c = All-contains P xs y (All-from_recursion P xs h) c

-- a number below n is in the list from 0 on
pub range_lists : (n p : ℕ) → p < n → Contains (range_with_len 0 n) p
range_lists n p lt = (p, omega (arith, length-range_with_len 0 n), (let is = get_or-range_with_len 0 n p p lt in omega arith))
