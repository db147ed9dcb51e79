-- A binary search in a list that rises finds the place of a number: searched_place. And which numbers are above it: searched_above.
use Rattle.std.proofs.Common.{◌≡◌, ℕ, ◌+◌, ◌<◌, ◌≤◌, List, length, get_or, Some, None, Result, Ok, Err, sym, ap, subst}
use Rattle.std.proofs.Common.{◌∙◌, arith, ⊎_elim, nat_cmp, MatchResult}
use Rattle.std.specs.List.Sorted.{IsBinarySearchResult}
use Rattle.std.proofs.lemmas.List.Sorted.{searched}
use Rattle.std.proofs.lemmas.Bool.{cases_lt}
use Rattle.elim_step.specs.Eliminated.{point_at}
use Rattle.private_elim.specs.Locals.{place_in}
use Rattle.private_elim.proofs.locals.Places.{Rises, place_of_point, place_nowhere}

-- a list that rises does not fall
up : (xs : List ℕ) → Rises xs → (i j : ℕ) → i ≤ j → j < length xs → get_or xs i 0 ≤ get_or xs j 0
up xs h i j le within =
    ⊎_elim
    (λ (less : i < j). let below = h i j less within in omega arith)
    (λ (same : j ≤ i). let e : i ≡ j = omega arith in omega (arith, ap (λ k. get_or xs k 0) e))
    (cases_lt i j)

-- what was found, or that nothing was
searched_in : (xs : List ℕ) (p : ℕ) (r : Result ℕ ℕ) → Rises xs → IsBinarySearchResult (λ y. nat_cmp y p) xs r
    → MatchResult r (λ k. (k < length xs) × (place_in xs p ≡ Some k)) (λ _. place_in xs p ≡ None)
searched_in xs p (Ok k) h found =
    let there = searched xs p (Ok k) found (up xs h) in
    (there.0, ap (place_in xs) (sym there.1) ∙ place_of_point xs k h there.0)
searched_in xs p (Err k) h found =
    let there = searched xs p (Err k) found (up xs h) in
    place_nowhere xs p (λ i lt.
    ⊎_elim
    (λ (early : i < k). let below = there.1 i early in omega arith)
    (λ (late : k ≤ i). let above = there.2 i late lt in omega arith)
    (cases_lt i k))

-- the list under the two names that an answer has for it
pub searched_place : (xs ys : List ℕ) (p : ℕ) (r : Result ℕ ℕ) → ys ≡ xs → Rises xs → IsBinarySearchResult (λ y. nat_cmp y p) ys r
    → MatchResult r (λ k. (k < length xs) × (place_in xs p ≡ Some k)) (λ _. place_in xs p ≡ None)
searched_place xs ys p r e h found = searched_in xs p r h (subst (λ zs. IsBinarySearchResult (λ y. nat_cmp y p) zs r) e found)

-- the numbers at the first n places are not above p, and those at the others are
abbrev pub AreAboveFrom : List ℕ → ℕ → ℕ → Type 0
AreAboveFrom xs p n = (n ≤ length xs) × ((k : ℕ) → k < n → p < point_at xs k → ⊥) × ((k : ℕ) → n ≤ k → k < length xs → p < point_at xs k)

above_in : (xs : List ℕ) (p : ℕ) (r : Result ℕ ℕ) → Rises xs → IsBinarySearchResult (λ y. nat_cmp y p) xs r
    → MatchResult r (λ k. AreAboveFrom xs p (k + 1)) (λ k. AreAboveFrom xs p k)
above_in xs p (Ok k) h found =
    let there = searched xs p (Ok k) found (up xs h) in
    let within = there.0 in
    let is : point_at xs k ≡ p = there.1 in (
      omega arith,
      λ m low above. (let le : get_or xs m 0 ≤ get_or xs k 0 = up xs h m k (omega arith) there.0 in omega arith),
      λ m high lt. (let less : point_at xs k < point_at xs m = h k m (omega arith) lt in omega arith),
    )
above_in xs p (Err k) h found =
    let there = searched xs p (Err k) found (up xs h) in (
      there.0,
      λ m low above. (let below = there.1 m low in omega arith),
      there.2,
    )

pub searched_above : (xs ys : List ℕ) (p : ℕ) (r : Result ℕ ℕ) → ys ≡ xs → Rises xs → IsBinarySearchResult (λ y. nat_cmp y p) ys r
    → MatchResult r (λ k. AreAboveFrom xs p (k + 1)) (λ k. AreAboveFrom xs p k)
searched_above xs ys p r e h found = above_in xs p r h (subst (λ zs. IsBinarySearchResult (λ y. nat_cmp y p) zs r) e found)
