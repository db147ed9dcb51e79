-- Room made for pairs in turn, and what it comes to.
use Rattle.std.proofs.Common.{suc, arith, true, false, refl, ◌≡◌, ℕ, ◌+◌, ◌<◌, List, [], ◌∷◌, Bool, ◌&&◌, ◌||◌, drop, length, ap, sym, ◌∙◌}
use Rattle.std.specs.Prelude.{◌==◌, not, if◌then◌else◌, slice_index_or}
use Rattle.std.proofs.lemmas.List.{drop_more}
use Rattle.std.proofs.lemmas.Bool.Decides.{nat_tests}
use Rattle.dist_rows.specs.Matrix.{in_room}
use Rattle.dist_rows.specs.Places.{lists, AreWithin, is_roomless, count_roomless}
use Rattle.dist_rows.specs.Turns.{roomed, row_roomed, all_roomed}

roomed_alike : (i j : ℕ) (f g : ℕ → ℕ → Bool) → ((p q : ℕ) → f p q ≡ g p q) → (p q : ℕ) → roomed i j f p q ≡ roomed i j g p q
roomed_alike i j f g is p q = ap (λ (b : Bool). if j == i then b else (((p == i) && (q == j)) || b)) (is p q)

row_alike : (i : ℕ) (js : List ℕ) (f g : ℕ → ℕ → Bool) → ((p q : ℕ) → f p q ≡ g p q) → (p q : ℕ) → row_roomed i js f p q ≡ row_roomed i js g p q
row_alike i [] f g is p q = is p q
row_alike i (j ∷ js) f g is p q = row_alike i js (roomed i j f) (roomed i j g) (roomed_alike i j f g is) p q

all_alike : (is list : List ℕ) (f g : ℕ → ℕ → Bool) → ((p q : ℕ) → f p q ≡ g p q) → (p q : ℕ) → all_roomed is list f p q ≡ all_roomed is list g p q
all_alike [] list f g h p q = h p q
all_alike (i ∷ is) list f g h p q = all_alike is list (row_roomed i list f) (row_roomed i list g) (row_alike i list f g h) p q

pub row_more : (i : ℕ) (js : List ℕ) (n : ℕ) (f g : ℕ → ℕ → Bool) → n < length js
    → ((p q : ℕ) → g p q ≡ roomed i (slice_index_or js n 0) f p q) → (p q : ℕ) → row_roomed i (drop (n + 1) js) g p q ≡ row_roomed i (drop n js) f p q
row_more i js n f g lt is p q =
    let e : drop n js ≡ slice_index_or js n 0 ∷ drop (n + 1) js = drop_more js n 0 lt in
    row_alike i (drop (n + 1) js) g (roomed i (slice_index_or js n 0) f) is p q ∙ sym (ap (λ (xs : List ℕ). row_roomed i xs f p q) e)

pub all_more : (is list : List ℕ) (n : ℕ) (f g : ℕ → ℕ → Bool) → n < length is
    → ((p q : ℕ) → g p q ≡ row_roomed (slice_index_or is n 0) list f p q) → (p q : ℕ)
    → all_roomed (drop (n + 1) is) list g p q ≡ all_roomed (drop n is) list f p q
all_more is list n f g lt h p q =
    let e : drop n is ≡ slice_index_or is n 0 ∷ drop (n + 1) is = drop_more is n 0 lt in
    all_alike (drop (n + 1) is) list g (row_roomed (slice_index_or is n 0) list f) h p q ∙ sym (ap (λ (xs : List ℕ). all_roomed xs list f p q) e)

-- one place more, for a pair
row_step : (i j p q : ℕ) (l b : Bool) → ((not (p == q) && (p == i) && l) || (if j == i then b else (((p == i) && (q == j)) || b)))
    ≡ ((not (p == q) && (p == i) && ((q == j) || l)) || b)
row_step i j p q true true = grind (arith, nat_tests)
row_step i j p q true false = grind (arith, nat_tests)
row_step i j p q false true = grind (arith, nat_tests)
row_step i j p q false false = grind (arith, nat_tests)

all_step : (i p q : ℕ) (l m b : Bool) → ((not (p == q) && l && m) || ((not (p == q) && (p == i) && m) || b)) ≡ ((not (p == q) && ((p == i) || l) && m) || b)
all_step i p q true true b = grind (arith, nat_tests)
all_step i p q true false b = grind (arith, nat_tests)
all_step i p q false true b = grind (arith, nat_tests)
all_step i p q false false b = grind (arith, nat_tests)

-- room made for the pairs of i with each place of a list in turn is room for those of i with another one of the list
pub row_roomed_is : (i : ℕ) (js : List ℕ) (f : ℕ → ℕ → Bool) (p q : ℕ) → row_roomed i js f p q ≡ ((not (p == q) && (p == i) && lists js q) || f p q)
row_roomed_is i [] f p q = (let no : (not (p == q) && (p == i) && false) ≡ false = grind (arith, nat_tests) in rw no refl)
row_roomed_is i (j ∷ js) f p q = row_roomed_is i js (roomed i j f) p q ∙ row_step i j p q (lists js q) (f p q)

-- and for all pairs of two lists
pub all_roomed_is : (is list : List ℕ) (f : ℕ → ℕ → Bool) (p q : ℕ) → all_roomed is list f p q ≡ ((not (p == q) && lists is p && lists list q) || f p q)
all_roomed_is [] list f p q = (let no : (not (p == q) && false && lists list q) ≡ false = grind (arith, nat_tests) in rw no refl)
all_roomed_is (i ∷ is) list f p q =
    all_roomed_is is list (row_roomed i list f) p q
    ∙ ap (λ (b : Bool). (not (p == q) && lists is p && lists list q) || b) (row_roomed_is i list f p q)
    ∙ all_step i p q (lists is p) (lists list q) (f p q)

-- a place of a list is below the size
pub below_from_lists : (n : ℕ) (list : List ℕ) (p : ℕ) → AreWithin n list → lists list p ≡ true → p < n
below_from_lists n [] p within h = absurd (cc)
below_from_lists n (x ∷ xs) p within h =
    elim (p == x) as (λ b. (p == x) ≡ b → (b || lists xs p) ≡ true → p < n) [
      | true ↦ λ is g. (let below : x < n = within 0 (omega arith) in grind (arith, nat_tests))
      | false ↦ λ is g. below_from_lists n xs p (λ m l. within (suc m) (omega (arith, l))) g
    ] refl h

-- a matrix has room for all pairs below its size
pub row_full : (n i : ℕ) (list : List ℕ) → i < n → AreWithin n list → (p q : ℕ) → in_room n p q ≡ ((not (p == q) && (p == i) && lists list q) || in_room n p q)
row_full n i list low within p q =
    elim (lists list q) as (λ b. lists list q ≡ b → in_room n p q ≡ ((not (p == q) && (p == i) && b) || in_room n p q)) [
      | true ↦ λ h. (let below : q < n = below_from_lists n list q within h in grind (arith, nat_tests))
      | false ↦ λ h. grind (arith, nat_tests)
    ] refl

pub all_full : (n : ℕ) (list : List ℕ) → AreWithin n list → (p q : ℕ) → in_room n p q ≡ ((not (p == q) && lists list p && lists list q) || in_room n p q)
all_full n list within p q =
    elim (lists list p) as (λ a. lists list p ≡ a → in_room n p q ≡ ((not (p == q) && a && lists list q) || in_room n p q)) [
      | true ↦ λ g. elim (lists list q) as (λ b. lists list q ≡ b → in_room n p q ≡ ((not (p == q) && true && b) || in_room n p q)) [
        | true ↦ λ h. (let first : p < n = below_from_lists n list p within g in let below : q < n = below_from_lists n list q within h in
            grind (arith, nat_tests))
        | false ↦ λ h. grind (arith, nat_tests)
      ] refl
      | false ↦ λ g. grind (arith, nat_tests)
    ] refl

-- no pair from one place of a matrix to another has no room
pub none_roomless : (n i : ℕ) (list : List ℕ) → i < n → AreWithin n list → 0 ≡ count_roomless (in_room n) i list
none_roomless n i [] low within = refl
none_roomless n i (j ∷ js) low within =
    let below : j < n = within 0 (omega arith) in
    let full : is_roomless (in_room n) i j ≡ false = grind (arith, nat_tests) in
    rw full (none_roomless n i js low (λ m l. within (suc m) (omega (arith, l))))
