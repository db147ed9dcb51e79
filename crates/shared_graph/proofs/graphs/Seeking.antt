-- What a binary search among points that rise answers: up, place_low, found_at, found_nowhere, nowhere_listed.
use Rattle.std.proofs.Common.{zero, suc, ◌≡◌, ◌≢◌, ℕ, ◌<◌, ◌≤◌, List, length, get_or, Ok, Err, arith, inl, inr, nat_cmp}
use Rattle.std.proofs.Common.{Bool, true, false, Option, Some, None, refl, sym, subst}
use Rattle.std.specs.Prelude.{IfNone}
use Rattle.std.specs.List.{AllPairs}
use Rattle.std.specs.List.Sorted.{IsBinarySearchResult}
use Rattle.std.proofs.lemmas.List.Sorted.{searched}
use Rattle.std.proofs.lemmas.Bool.{cases_lt}
use Rattle.elim_step.specs.Eliminated.{point_at}
use Rattle.shared_graph.specs.Graphs.{places_in}
use Rattle.shared_graph.specs.Interfaces.{InterfaceView, IsInterface, is_listed}
use Rattle.shared_graph.proofs.graphs.Standing.{place_of_listed}

-- a list that rises does not fall
pub up : (xs : List ℕ) → AllPairs (λ p q. p < q) xs → (i j : ℕ) → i ≤ j → j < length xs → get_or xs i 0 ≤ get_or xs j 0
up xs h i j le within =
    elim (cases_lt i j) [
      | inl less ↦ (let below = h i j 0 less within in omega arith)
      | inr same ↦ (let e : i ≡ j = omega arith in rw e (omega arith))
    ]

-- a place is at most its number
pub place_low : (xs : List ℕ) → AllPairs (λ p q. p < q) xs → (k : ℕ) → k < length xs → k ≤ point_at xs k
place_low xs h zero lt = omega arith
place_low xs h (suc k) lt = (let less = h k (suc k) 0 (omega arith) lt in let more = place_low xs h k (omega arith) in omega arith)

pub found_at : (xs : List ℕ) (p k : ℕ) → AllPairs (λ p q. p < q) xs → IsBinarySearchResult (λ y. nat_cmp y p) xs (Ok k)
    → (k < length xs) × (point_at xs k ≡ p)
found_at xs p k h found = searched xs p (Ok k) found (up xs h)

pub found_nowhere : (xs : List ℕ) (p k : ℕ) → AllPairs (λ p q. p < q) xs → IsBinarySearchResult (λ y. nat_cmp y p) xs (Err k) → (i : ℕ) → i < length xs
    → point_at xs i ≢ p
found_nowhere xs p k h found i lt same =
    let there = searched xs p (Err k) found (up xs h) in
    elim (cases_lt i k) [
      | inl early ↦ (let below = there.1 i early in absurd (omega arith))
      | inr late ↦ (let above = there.2 i late lt in absurd (omega arith))
    ]

-- a point without a place is neither z nor shared
pub nowhere_listed : (face : InterfaceView) → IsInterface face → (points : List ℕ) → points ≡ places_in face → (p : ℕ) (o : Option ℕ)
    → IfNone o ((k : ℕ) → k < length points → point_at points k ≢ p) → IfNone o ((p ≢ 0) × (is_listed face p ≡ false))
nowhere_listed face known points same p (Some k) h = tt
nowhere_listed face known points same p None h = (λ z. at 0 (omega arith) (sym z), by (is_listed face p) refl) where
  at : (k : ℕ) → k < length (places_in face) → point_at (places_in face) k ≢ p
  at = subst (λ (xs : List ℕ). (k : ℕ) → k < length xs → point_at xs k ≢ p) same h

  by : (b : Bool) → is_listed face p ≡ b → b ≡ false
  by true t = (let w = place_of_listed face known p t in absurd (at w.0 w.2 w.3))
  by false t = refl
