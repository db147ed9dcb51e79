-- Lists of numbers that strictly rise, and the places at which they have a number: Rises.
use Rattle.std.proofs.Common.{◌≡◌, ◌≢◌, ℕ, zero, suc, ◌+◌, ◌<◌, ◌≤◌, true, false, List, [], ◌∷◌, ◌++◌, length, ◌==◌, Option, Some, None}
use Rattle.std.proofs.Common.{if◌then◌else◌, refl, sym, ap, ◌∙◌, arith, ⊎_elim, add-one}
use Rattle.std.specs.List.{All, Contains}
use Rattle.std.specs.Option.{option_map}
use Rattle.std.proofs.lemmas.List.{get_or_append_left, get_or_push, length_push, get_or_default}
use Rattle.std.proofs.lemmas.Bool.{cases_lt, eqb-true, eqb-false, eq-eqb, ne_eqb}
use Rattle.elim_step.specs.Eliminated.{point_at}
use Rattle.private_elim.specs.Locals.{place_in}

-- each number is less than every later one
abbrev pub Rises : List ℕ → Type 0
Rises xs = (i j : ℕ) → i < j → j < length xs → point_at xs i < point_at xs j

-- a greater number may come last
pub Rises-push : (xs : List ℕ) (y : ℕ) → Rises xs → All (λ x. x < y) xs → Rises (xs ++ y ∷ [])
Rises-push xs y h low i j lt within =
    let len = length_push xs y in
    ⊎_elim
    (λ (inside : j < length xs). rw (get_or_append_left xs (y ∷ []) 0 i (omega arith), get_or_append_left xs (y ∷ []) 0 j inside) (h i j lt inside))
    (λ (past : length xs ≤ j).
    let here : length xs ≡ j = omega arith in
    rw (get_or_append_left xs (y ∷ []) 0 i (omega arith), get_or_push xs y 0 j here) (low i 0 (omega arith)))
    (cases_lt j (length xs))

-- a lesser number may come first
pub Rises-cons : (x : ℕ) (xs : List ℕ) → Rises xs → All (λ y. x < y) xs → Rises (x ∷ xs)
Rises-cons x xs h low i zero lt within = absurd (omega arith)
Rises-cons x xs h low zero (suc j) lt within = low j 0 (omega arith)
Rises-cons x xs h low (suc i) (suc j) lt within = h i j (omega arith) (omega arith)

-- what a look-up answers, from what it answers in the rest of the list
next_none : (o : Option ℕ) → option_map (λ n. n + 1) o ≡ None → o ≡ None
next_none None e = refl
next_none (Some k) e = cc

next_some : (o : Option ℕ) (k : ℕ) → option_map (λ n. n + 1) o ≡ Some k → (m : ℕ) × (o ≡ Some m) × (k ≡ suc m)
next_some None k e = cc
next_some (Some m) k e = let same : m + 1 ≡ k = cc in (m, refl, omega arith)

place_head : (x p : ℕ) (xs : List ℕ) → x ≡ p → place_in (x ∷ xs) p ≡ Some 0
place_head x p xs e = ap (λ b. if b then Some 0 else option_map (λ n. n + 1) (place_in xs p)) (eq-eqb x p e)

place_tail : (x p : ℕ) (xs : List ℕ) → x ≢ p → place_in (x ∷ xs) p ≡ option_map (λ n. n + 1) (place_in xs p)
place_tail x p xs e = ap (λ b. if b then Some 0 else option_map (λ n. n + 1) (place_in xs p)) (ne_eqb x p e)

-- in a list that rises, a look-up of what stands at a place answers that place
pub place_of_point : (xs : List ℕ) (k : ℕ) → Rises xs → k < length xs → place_in xs (point_at xs k) ≡ Some k
place_of_point [] k h lt = absurd (omega arith)
place_of_point (x ∷ xs) zero h lt = place_head x x xs refl
place_of_point (x ∷ xs) (suc k) h lt =
    let above : x < point_at xs k = h 0 (suc k) (omega arith) lt in
    place_tail x (point_at xs k) xs (omega arith)
    ∙ ap (option_map (λ n. n + 1)) (place_of_point xs k (λ i j l w. h (suc i) (suc j) (omega arith) (omega arith)) (omega arith))
    ∙ ap Some (add-one k)

-- the number stands at the place that a look-up answers
pub place_found : (xs : List ℕ) (p k : ℕ) → place_in xs p ≡ Some k → (k < length xs) × (point_at xs k ≡ p)
place_found [] p k e = cc
place_found (x ∷ xs) p k e =
    elim (x == p) as (λ b. (x == p) ≡ b → (k < length (x ∷ xs)) × (point_at (x ∷ xs) k ≡ p)) [
      | true ↦ λ is.
          let same = eqb-true x p is in
          let first : k ≡ 0 = (let found = place_head x p xs same in cc) in
          (omega arith, ap (λ n. point_at (x ∷ xs) n) first ∙ same)
      | false ↦ λ is.
          let rest = next_some (place_in xs p) k (sym (place_tail x p xs (eqb-false x p is)) ∙ e) in
          let there = place_found xs p rest.0 rest.1 in
          (omega (arith, there.0, rest.2), ap (λ n. point_at (x ∷ xs) n) rest.2 ∙ there.1)
    ] refl

-- where a look-up answers no place, the number stands nowhere
pub place_missing : (xs : List ℕ) (p : ℕ) → place_in xs p ≡ None → (k : ℕ) → k < length xs → point_at xs k ≢ p
place_missing [] p e k lt = absurd (omega arith)
place_missing (x ∷ xs) p e zero lt = λ is. let found = place_head x p xs is in cc
place_missing (x ∷ xs) p e (suc k) lt =
    let differ : x ≢ p = λ is. let found = place_head x p xs is in cc in
    place_missing xs p (next_none (place_in xs p) (sym (place_tail x p xs differ) ∙ e)) k (omega arith)

-- and the other way round
pub place_nowhere : (xs : List ℕ) (p : ℕ) → ((k : ℕ) → k < length xs → point_at xs k ≢ p) → place_in xs p ≡ None
place_nowhere [] p h = refl
place_nowhere (x ∷ xs) p h =
    place_tail x p xs (h 0 (omega arith)) ∙ ap (option_map (λ n. n + 1)) (place_nowhere xs p (λ k lt. h (suc k) (omega arith)))

-- a number that the list has stands at some place
pub place_contained : (xs : List ℕ) (p : ℕ) → Contains xs p → (k : ℕ) × (k < length xs) × (point_at xs k ≡ p)
place_contained xs p h = (h.0, h.1, get_or_default xs h.0 0 p h.1 ∙ h.2)
