-- Lists in which no number stands twice: by place, their parts, and how long they can be.
use Rattle.std.proofs.Common.{◌≡◌, ◌≢◌, ℕ, zero, suc, ◌<◌, ◌≤◌, List, [], ◌∷◌, ◌++◌, length, get_or, take, drop, true, false, refl, arith, ⊎_elim, ◌⊎◌, inl, inr}
use Rattle.std.specs.Prelude.{nat_eq}
use Rattle.std.specs.List.{AllByRecursion, IsDistinct, list_any}
use Rattle.std.proofs.lemmas.Bool.{cases_eq}
use Rattle.std.proofs.lemmas.Bool.Decides.{nat_tests}
use Rattle.std.proofs.lemmas.Map.Steps.{length-le_from_distinct_below}
use Rattle.stn_model.specs.Walks.{AllDifferent}
use Rattle.stn_walk.specs.Parts.{IsRepeat}

differs : (x : ℕ) (xs : List ℕ) → ((m : ℕ) → m < length xs → x ≡ get_or xs m 0 → ⊥) → AllByRecursion (λ y. x ≢ y) xs
differs x [] h = tt
differs x (y ∷ ys) h = (λ e. h 0 (omega arith) e, differs x ys (λ m lt e. h (suc m) (omega arith) e))

pub AllDifferent-from_index : (xs : List ℕ) → ((m k : ℕ) → m < length xs → k < m → get_or xs k 0 ≡ get_or xs m 0 → ⊥) → AllDifferent xs
AllDifferent-from_index [] h = tt
AllDifferent-from_index (x ∷ xs) h = (
  differs x xs (λ m lt e. h (suc m) 0 (omega arith) (omega arith) e),
  AllDifferent-from_index xs (λ m k lt kl e. h (suc m) (suc k) (omega arith) (omega arith) e),
)

pub differs_at : (x : ℕ) (xs : List ℕ) → AllByRecursion (λ y. x ≢ y) xs → (m : ℕ) → m < length xs → x ≡ get_or xs m 0 → ⊥
differs_at x [] h m lt e = absurd (omega arith)
differs_at x (y ∷ ys) h zero lt e = h.0 e
differs_at x (y ∷ ys) h (suc m) lt e = differs_at x ys h.1 m (omega arith) e

pub different_at : (xs : List ℕ) → AllDifferent xs → (m k : ℕ) → m < length xs → k < m → get_or xs k 0 ≡ get_or xs m 0 → ⊥
different_at [] h m k lt kl e = absurd (omega arith)
different_at (x ∷ xs) h zero k lt kl e = absurd (omega arith)
different_at (x ∷ xs) h (suc m) zero lt kl e = differs_at x xs h.0 m (omega arith) e
different_at (x ∷ xs) h (suc m) (suc k) lt kl e = different_at xs h.1 m k (omega arith) (omega arith) e

-- one number more at the end
apart-push : (y : ℕ) (xs : List ℕ) (x : ℕ) → AllByRecursion (λ z. y ≢ z) xs → y ≢ x → AllByRecursion (λ z. y ≢ z) (xs ++ x ∷ [])
apart-push y [] x h ne = (ne, tt)
apart-push y (z ∷ zs) x h ne = (h.0, apart-push y zs x h.1 ne)

pub AllDifferent-push : (xs : List ℕ) (x : ℕ) → AllDifferent xs → ((k : ℕ) → k < length xs → get_or xs k 0 ≡ x → ⊥) → AllDifferent (xs ++ x ∷ [])
AllDifferent-push [] x d h = (tt, tt)
AllDifferent-push (y ∷ ys) x d h =
    (apart-push y ys x d.0 (λ e. h 0 (omega arith) e), AllDifferent-push ys x d.1 (λ k lt e. h (suc k) (omega arith) e))

-- the front and the rest
apart-take : (y k : ℕ) (xs : List ℕ) → AllByRecursion (λ z. y ≢ z) xs → AllByRecursion (λ z. y ≢ z) (take k xs)
apart-take y zero xs h = tt
apart-take y (suc k) [] h = tt
apart-take y (suc k) (x ∷ xs) h = (h.0, apart-take y k xs h.1)

pub AllDifferent-take : (k : ℕ) (xs : List ℕ) → AllDifferent xs → AllDifferent (take k xs)
AllDifferent-take zero xs d = tt
AllDifferent-take (suc k) [] d = tt
AllDifferent-take (suc k) (x ∷ xs) d = (apart-take x k xs d.0, AllDifferent-take k xs d.1)

pub AllDifferent-drop : (k : ℕ) (xs : List ℕ) → AllDifferent xs → AllDifferent (drop k xs)
AllDifferent-drop zero xs d = d
AllDifferent-drop (suc k) [] d = tt
AllDifferent-drop (suc k) (x ∷ xs) d = AllDifferent-drop k xs d.1

-- a number is not in the list, or stands at some place of it
pub place_in : (x : ℕ) (xs : List ℕ) → AllByRecursion (λ y. x ≢ y) xs ⊎ ((m : ℕ) × (m < length xs) × (x ≡ get_or xs m 0))
place_in x [] = inl tt
place_in x (y ∷ ys) = ⊎_elim
    (λ (e : x ≡ y). inr (0, omega arith, e))
    (λ (ne : x ≢ y). ⊎_elim
    (λ (h : AllByRecursion (λ z. x ≢ z) ys). inl (ne, h))
    (λ (h : (m : ℕ) × (m < length ys) × (x ≡ get_or ys m 0)). let lt = h.1 in inr (suc h.0, omega arith, h.2))
    (place_in x ys))
    (cases_eq x y)

-- no number stands twice, or one does
pub repeat_in : (xs : List ℕ) → AllDifferent xs ⊎ ((i j : ℕ) × IsRepeat xs i j)
repeat_in [] = inl tt
repeat_in (x ∷ xs) = ⊎_elim
    (λ (h : AllByRecursion (λ y. x ≢ y) xs). ⊎_elim
    (λ (d : AllDifferent xs). inl (h, d))
    (λ (r : (i j : ℕ) × IsRepeat xs i j).
    let lt = r.2.ordered in let within = r.2.within in
    inr (suc r.0, suc r.1, record { ordered = omega arith; within = omega arith; same = r.2.same }))
    (repeat_in xs))
    (λ (h : (m : ℕ) × (m < length xs) × (x ≡ get_or xs m 0)).
    let lt = h.1 in inr (0, suc h.0, record { ordered = omega arith; within = omega arith; same = h.2 }))
    (place_in x xs)

-- different numbers below n are at most n
apart-test : (x y : ℕ) → x ≢ y → nat_eq x y ≡ false
apart-test x y ne =
    elim (nat_eq x y) as (λ b. nat_eq x y ≡ b → b ≡ false) [ true ↦ λ t. absurd (ne (grind (arith, nat_tests))) | false ↦ λ t. refl ] refl

apart-tests : (x : ℕ) (ys : List ℕ) → AllByRecursion (λ y. x ≢ y) ys → AllByRecursion (λ y. nat_eq x y ≡ false) ys
apart-tests x [] h = tt
apart-tests x (y ∷ ys) h = (apart-test x y h.0, apart-tests x ys h.1)

distinct : (xs : List ℕ) → AllDifferent xs → IsDistinct nat_eq xs
unfolding IsDistinct
distinct [] d = tt
distinct (x ∷ xs) d = (apart-tests x xs d.0, distinct xs d.1)

below_each : (n : ℕ) (xs : List ℕ) → AllByRecursion (λ x. x < n) xs → (q : ℕ) → list_any (nat_eq q) xs ≡ true → q < n
below_each n [] h q there = absurd (cc)
below_each n (x ∷ xs) h q there =
    elim (nat_eq q x) as (λ b. nat_eq q x ≡ b → q < n) [
      | true ↦ λ t. let e : q ≡ x = grind (arith, nat_tests) in let low = h.0 in omega arith
      | false ↦ λ t. below_each n xs h.1 q (rw t at there)
    ] refl

pub few_different : (n : ℕ) (xs : List ℕ) → AllDifferent xs → AllByRecursion (λ x. x < n) xs → length xs ≤ n
few_different n xs d h = length-le_from_distinct_below xs n (distinct xs d) (below_each n xs h)
