-- Offers of a row grow by the cell with one place more, and what they lower.
use Rattle.std.proofs.Common.{suc, ◌≡◌, ℕ, ◌+◌, ◌<◌, List, [], ◌∷◌, ◌++◌, Bool, true, false, ◌||◌, Option, Some, None, ap, sym, ◌∙◌}
use Rattle.std.proofs.Common.{refl, length, take, get_or, subst, arith, inl, inr, append-nil}
use Rattle.std.specs.Prelude.{◌==◌, if◌then◌else◌, IfSome, option_to_list}
use Rattle.std.proofs.lemmas.Bool.{cases_lt}
use Rattle.std.proofs.lemmas.Bool.Decides.{nat_tests}
use Rattle.std.proofs.lemmas.List.{get_or_append_left, get_or_push, length_push, length-take-le, get_or-take}
use Rattle.std.proofs.Math.Bool.{or-true}
use Rattle.dist_rows.specs.declared.cell.Cell.{Cell}
use Rattle.dist_rows.specs.declared.cell.Offer.{Offer}
use Rattle.dist_rows.specs.Cells.{IsLight, offer_at, no_offer, offer_to, AreRising}
use Rattle.dist_rows.specs.Places.{AreRisingPlaces}
use Rattle.stn_walk.specs.Eliminations.{is_in}
use Rattle.stn_walk.proofs.Members.{is_in-next}
use Rattle.elim_step.specs.Offered.{offer_for, AreOffers}

-- no offers to no places
pub offers-none : (f : ℕ → Option Cell) → AreOffers f [] []
offers-none f = record {
  rising = λ m n less l. absurd (omega (arith, l));
  each = λ q. refl;
  listed = λ m l. absurd (omega (arith, l));
  light = λ m l. absurd (omega (arith, l));
}

-- an offer behind others
or_offer : Option Offer → Option Offer → Option Offer
or_offer None o = o
or_offer (Some p) o = Some p

offer_to-behind : (os : List Offer) (o : Offer) (q : ℕ) → offer_to (os ++ o ∷ []) q ≡ or_offer (offer_to os q) (if o.place == q then Some o else None)
unfolding or_offer
offer_to-behind [] o q = refl
offer_to-behind (p ∷ os) o q =
    elim (p.place == q) as (λ b. (if b then Some p else offer_to (os ++ o ∷ []) q)
    ≡ or_offer (if b then Some p else offer_to os q) (if o.place == q then Some o else None)) [
      | true ↦ refl
      | false ↦ offer_to-behind os o q
    ]

-- what holds of each place of a list of rising places before a number
prefix_below : (ys : List ℕ) (b p : ℕ) → ((m : ℕ) → m < length ys → get_or ys m 0 < b) → is_in ys p ≡ true → p < b
prefix_below [] b p low here = absurd (cc)
prefix_below (y ∷ ys) b p low here =
    elim (p == y) as (λ t. (p == y) ≡ t → p < b) [
      | true ↦ λ h. (let e : p ≡ y = grind (arith, nat_tests) in let l = low 0 (omega arith) in omega (arith, e, l))
      | false ↦ λ h. prefix_below ys b p (λ m l. low (suc m) (omega (arith, l))) (let rest : is_in ys p ≡ true = (rw (h, or-false (is_in ys p)) at here) in rest)
    ] refl where
      or-false : (b : Bool) → (b || false) ≡ b
      or-false true = refl
      or-false false = refl

pub taken_below : (xs : List ℕ) (n p : ℕ) → AreRisingPlaces xs → n < length xs → is_in (take n xs) p ≡ true → p < get_or xs n 0
taken_below xs n p rising lt here = prefix_below (take n xs) (get_or xs n 0) p low here where
  low : (m : ℕ) → m < length (take n xs) → get_or (take n xs) m 0 < get_or xs n 0
  low m l =
      let few : length (take n xs) ≡ n = length-take-le n xs (omega (arith, lt)) in
      let less : m < n = omega (arith, l, few) in
      rw (get_or-take n xs m 0 less) (rising m n less lt)

turned : (x q : ℕ) → (x == q) ≡ (q == x)
turned x q = grind (arith, nat_tests)

none_more : (b e : Bool) (y : Option Offer) → (e ≡ true → y ≡ None) → (if b then y else None) ≡ (if b || e then y else None)
none_more true e y h = refl
none_more false true y h = sym (h refl)
none_more false false y h = refl

some_more : (b e : Bool) (y : Option Offer) (o : Offer) → (e ≡ true → y ≡ Some o) → (e ≡ true → b ≡ false)
    → or_offer (if b then y else None) (if e then Some o else None) ≡ (if b || e then y else None)
unfolding or_offer
some_more true true y o is away = absurd (let h : true ≡ false = away refl in cc)
some_more true false None o is away = refl
some_more true false (Some p) o is away = refl
some_more false true y o is away = sym (is refl)
some_more false false y o is away = refl

-- the cell with the next place more
pub offers_more : (f : ℕ → Option Cell) (xs : List ℕ) (n : ℕ) (os : List Offer) → AreRisingPlaces xs → n < length xs
    → IfSome (f (get_or xs n 0)) (λ c. IsLight 99 c.weight) → AreOffers f (take n xs) os
    → AreOffers f (take (n + 1) xs) (os ++ option_to_list (offer_for (get_or xs n 0) (f (get_or xs n 0))))
offers_more f xs n os rising lt shines was = with_cell (f (get_or xs n 0)) refl shines where
  next : (q : ℕ) → (is_in (take n xs) q || (q == get_or xs n 0)) ≡ is_in (take (n + 1) xs) q
  next q = is_in-next xs n q lt

  wider : (p : ℕ) → is_in (take n xs) p ≡ true → is_in (take (n + 1) xs) p ≡ true
  wider p here = sym (next p) ∙ ap (λ b. b || (p == get_or xs n 0)) here

  with_cell : (c : Option Cell) → f (get_or xs n 0) ≡ c → IfSome c (λ c. IsLight 99 c.weight)
      → AreOffers f (take (n + 1) xs) (os ++ option_to_list (offer_for (get_or xs n 0) c))
  with_cell None is light = rw (append-nil os) (record {
    rising = was.rising;
    each = λ q. was.each q ∙ none_more (is_in (take n xs) q) (q == get_or xs n 0) (offer_for q (f q)) (missing q)
        ∙ ap (λ b. if b then offer_for q (f q) else None) (next q);
    listed = λ m l. wider (offer_at os m).place (was.listed m l);
    light = was.light;
  }) where
    missing : (q : ℕ) → (q == get_or xs n 0) ≡ true → offer_for q (f q) ≡ None
    missing q h = (let e : q ≡ get_or xs n 0 = grind (arith, nat_tests) in ap (offer_for q) (ap f e ∙ is))
  with_cell (Some c) is light = record {
    rising = rises;
    each = λ q. offer_to-behind os o q
        ∙ (λ t. or_offer (was.each q t) (if turned (get_or xs n 0) q t then Some o else None))
        ∙ some_more (is_in (take n xs) q) (q == get_or xs n 0) (offer_for q (f q)) o (there q) (fresh q)
        ∙ ap (λ b. if b then offer_for q (f q) else None) (next q);
    listed = by_offer (λ p. is_in (take (n + 1) xs) p.place ≡ true) (λ m l. wider (offer_at os m).place (was.listed m l)) at_last;
    light = by_offer (λ p. IsLight 99 p.weight) was.light light;
  } where
    o : Offer
    o = record { weight = c.weight; place = get_or xs n 0 }

    there : (q : ℕ) → (q == get_or xs n 0) ≡ true → offer_for q (f q) ≡ Some o
    there q h = (let e : q ≡ get_or xs n 0 = grind (arith, nat_tests) in rw e (ap (offer_for (get_or xs n 0)) is))

    fresh : (q : ℕ) → (q == get_or xs n 0) ≡ true → is_in (take n xs) q ≡ false
    fresh q h =
        elim (is_in (take n xs) q) as (λ b. is_in (take n xs) q ≡ b → b ≡ false) [
          | true ↦ λ here. (let e : q ≡ get_or xs n 0 = grind (arith, nat_tests) in let low = taken_below xs n q rising lt here in absurd (omega (arith, low, e)))
          | false ↦ λ here. refl
        ] refl

    at_last : is_in (take (n + 1) xs) (get_or xs n 0) ≡ true
    at_last = sym (next (get_or xs n 0)) ∙ (let same : (get_or xs n 0 == get_or xs n 0) ≡ true = grind (arith, nat_tests) in
        ap (λ b. is_in (take n xs) (get_or xs n 0) || b) same ∙ or-true (is_in (take n xs) (get_or xs n 0)))

    by_offer : (P : Offer → Type 0) → ((m : ℕ) → m < length os → P (offer_at os m)) → P o → (m : ℕ) → m < length (os ++ o ∷ []) → P (offer_at (os ++ o ∷ []) m)
    by_offer P old new m l =
        elim (cases_lt m (length os)) [
          | inl before ↦ subst P (sym (get_or_append_left os (o ∷ []) no_offer m before)) (old m before)
          | inr from ↦ subst P (sym (get_or_push os o no_offer m (let len = length_push os o in omega (arith, len, l, from)))) new
        ]

    rises : AreRising (os ++ o ∷ [])
    rises m k less l =
        let len = length_push os o in
        let first : m < length os = omega (arith, len, less, l) in
        elim (cases_lt k (length os)) [
          | inl before ↦ rw (get_or_append_left os (o ∷ []) no_offer m first, get_or_append_left os (o ∷ []) no_offer k before) (was.rising m k less before)
          | inr from ↦ rw (get_or_append_left os (o ∷ []) no_offer m first, get_or_push os o no_offer k (omega (arith, len, l, from)))
              (taken_below xs n (offer_at os m).place rising lt (was.listed m first))
        ]

-- the offers of other cells that are the same in this row
pub offers_same : (f g : ℕ → Option Cell) (xs : List ℕ) (os : List Offer) → ((q : ℕ) → g q ≡ f q) → AreOffers f xs os → AreOffers g xs os
offers_same f g xs os same are = record {
  rising = are.rising;
  each = λ q. are.each q ∙ ap (λ c. if is_in xs q then offer_for q c else None) (sym (same q));
  listed = are.listed;
  light = are.light;
}
