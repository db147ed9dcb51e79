-- Lists of places as tests: what a list has, and a part of it.
--   listed_at, within_in, lists_is     a place that is in a list
--   in_before                          a place of a rising list that is below one of it is before that
--   is_in-append, part_joined, part_in, part_rising, part_fresh     the part behind a prefix
--   ahead_fresh                        a place of a rising list stands nowhere before itself
use Rattle.std.proofs.Common.{zero, suc, ◌≡◌, ℕ, ◌+◌, ◌<◌, ◌≤◌, List, [], ◌∷◌, ◌++◌, Bool, true, false, ◌||◌, ap, sym, ◌∙◌, refl, length}
use Rattle.std.proofs.Common.{take, drop, get_or, subst, arith, inl, inr}
use Rattle.std.specs.Prelude.{◌==◌}
use Rattle.std.proofs.Math.Seq.{take-add}
use Rattle.std.proofs.Math.Bool.{or-false, or_comm}
use Rattle.std.proofs.lemmas.Bool.{cases_lt, false≢true}
use Rattle.std.proofs.lemmas.Bool.Decides.{nat_tests}
use Rattle.std.proofs.lemmas.List.{length-take-le, get_or-take, get_or-drop}
use Rattle.dist_rows.specs.Places.{lists, AreWithin, AreRisingPlaces}
use Rattle.stn_walk.specs.Eliminations.{is_in}
use Rattle.stn_walk.proofs.Members.{is_in-at}

-- a place of a list stands somewhere in it
pub listed_at : {P : Type 0} (xs : List ℕ) (p : ℕ) → is_in xs p ≡ true → ((m : ℕ) → m < length xs → get_or xs m 0 ≡ p → P) → P
listed_at [] p here found = absurd (false≢true here)
listed_at {P} (x ∷ xs) p here found =
    elim (p == x) as (λ b. (p == x) ≡ b → P) [
      | true ↦ λ t. found zero (omega arith) (let e : x ≡ p = grind (arith, nat_tests) in e)
      | false ↦ λ t. listed_at xs p (sym (or-false (is_in xs p)) ∙ ap (λ b. is_in xs p || b) (sym t) ∙ here) (λ m l is. found (suc m) (omega (arith, l)) is)
    ] refl

-- what is below a bound by its number in the list
pub within_in : (xs : List ℕ) (n p : ℕ) → AreWithin n xs → is_in xs p ≡ true → p < n
within_in xs n p within here = listed_at xs p here (λ m l is. (let low = within m l in omega (arith, low, is)))

-- two words for a place of a list
pub lists_is : (xs : List ℕ) (p : ℕ) → lists xs p ≡ is_in xs p
lists_is [] p = refl
lists_is (x ∷ xs) p = ap (λ b. (p == x) || b) (lists_is xs p) ∙ or_comm (p == x) (is_in xs p)

-- a place of a list that is below one of it stands before that
pub in_before : (xs : List ℕ) (n p : ℕ) → AreRisingPlaces xs → n < length xs → is_in xs p ≡ true → p < get_or xs n 0 → is_in (take n xs) p ≡ true
in_before xs n p rising lt here low = listed_at xs p here before where
  before : (m : ℕ) → m < length xs → get_or xs m 0 ≡ p → is_in (take n xs) p ≡ true
  before m l is =
      elim (cases_lt m n) [
        | inl less ↦
            let few : length (take n xs) ≡ n = length-take-le n xs (omega (arith, lt)) in
            subst (λ (q : ℕ). is_in (take n xs) q ≡ true) (get_or-take n xs m 0 less ∙ is) (is_in-at (take n xs) m (omega (arith, less, few)))
        | inr from ↦ absurd (elim (cases_lt n m) [
          | inl past ↦ (let up = rising n m past l in omega (arith, up, low, is))
          | inr back ↦ (let e : m ≡ n = omega (arith, from, back) in let same : get_or xs m 0 ≡ get_or xs n 0 = ap (λ (k : ℕ). get_or xs k 0) e in
              omega (arith, same, low, is))
        ])
      ]

pub is_in-append : (xs ys : List ℕ) (p : ℕ) → is_in (xs ++ ys) p ≡ (is_in xs p || is_in ys p)
is_in-append [] ys p = refl
is_in-append (x ∷ xs) ys p = ap (λ b. b || (p == x)) (is_in-append xs ys p) ∙ turned (is_in xs p) (is_in ys p) (p == x) where
  turned : (a b c : Bool) → ((a || b) || c) ≡ ((a || c) || b)
  turned true b c = refl
  turned false b c = or_comm b c

-- the part of a list from a number on, behind the places before it
module _ (xs ys : List ℕ) (from : ℕ) (few : from + length ys ≤ length xs) (part : ys ≡ take (length ys) (drop from xs)) where
  pub part_behind : take from xs ++ ys ≡ take (from + length ys) xs
  part_behind = ap (λ zs. take from xs ++ zs) part ∙ sym (take-add from (length ys) xs)

  pub part_joined : (p : ℕ) → (is_in (take from xs) p || is_in ys p) ≡ is_in (take (from + length ys) xs) p
  part_joined p = sym (is_in-append (take from xs) ys p) ∙ ap (λ zs. is_in zs p) part_behind

  pub part_at : (m : ℕ) → m < length ys → get_or ys m 0 ≡ get_or xs (from + m) 0
  part_at m l = ap (λ zs. get_or zs m 0) part ∙ get_or-take (length ys) (drop from xs) m 0 l ∙ get_or-drop from xs m 0

  pub part_within : (n : ℕ) → AreWithin n xs → AreWithin n ys
  part_within n within m l = rw (part_at m l) (within (from + m) (omega (arith, l, few)))

  pub part_rising : AreRisingPlaces xs → AreRisingPlaces ys
  part_rising rising m n less l =
      let up = rising (from + m) (from + n) (omega (arith, less)) (omega (arith, l, few)) in
      rw (part_at m (omega (arith, less, l)), part_at n l) up

  pub part_in : (p : ℕ) → is_in ys p ≡ true → is_in xs p ≡ true
  part_in p here = listed_at ys p here inside where
    inside : (m : ℕ) → m < length ys → get_or ys m 0 ≡ p → is_in xs p ≡ true
    inside m l is = subst (λ (q : ℕ). is_in xs q ≡ true) (sym (part_at m l) ∙ is) (is_in-at xs (from + m) (omega (arith, l, few)))

  pub part_away : (p : ℕ) → is_in xs p ≡ false → is_in ys p ≡ false
  part_away p away =
      elim (is_in ys p) as (λ b. is_in ys p ≡ b → b ≡ false) [
        | true ↦ λ here. absurd (false≢true (sym away ∙ part_in p here))
        | false ↦ λ here. refl
      ] refl

  -- none of its places is before it, where the list rises
  pub part_fresh : AreRisingPlaces xs → (p : ℕ) → is_in ys p ≡ true → is_in (take from xs) p ≡ false
  part_fresh rising p here =
      elim (is_in (take from xs) p) as (λ b. is_in (take from xs) p ≡ b → b ≡ false) [
        | true ↦ λ before. absurd (listed_at ys p here (λ m l is. listed_at (take from xs) p before (λ n low at. differ m n l low is at)))
        | false ↦ λ before. refl
      ] refl where
        differ : (m n : ℕ) → m < length ys → n < length (take from xs) → get_or ys m 0 ≡ p → get_or (take from xs) n 0 ≡ p → ⊥
        differ m n l low is at =
            let short : length (take from xs) ≡ from = length-take-le from xs (omega (arith, few)) in
            let less : n < from = omega (arith, low, short) in
            let up = rising n (from + m) (omega (arith, less)) (omega (arith, l, few)) in
            let there = part_at m l in
            let first : get_or (take from xs) n 0 ≡ get_or xs n 0 = get_or-take from xs n 0 less in
            omega (arith, up, there, first, is, at)

-- a place of a rising list stands nowhere before itself
pub ahead_fresh : (xs : List ℕ) (n : ℕ) → AreRisingPlaces xs → n < length xs → is_in (take n xs) (get_or xs n 0) ≡ false
ahead_fresh xs n rising lt =
    elim (is_in (take n xs) (get_or xs n 0)) as (λ b. is_in (take n xs) (get_or xs n 0) ≡ b → b ≡ false) [
      | true ↦ λ here. absurd (listed_at (take n xs) (get_or xs n 0) here not_below)
      | false ↦ λ here. refl
    ] refl where
      not_below : (m : ℕ) → m < length (take n xs) → get_or (take n xs) m 0 ≡ get_or xs n 0 → ⊥
      not_below m l is =
          let few : length (take n xs) ≡ n = length-take-le n xs (omega (arith, lt)) in
          let less : m < n = omega (arith, l, few) in
          let up = rising m n less lt in
          let same : get_or (take n xs) m 0 ≡ get_or xs m 0 = get_or-take n xs m 0 less in
          omega (arith, up, same, is)
