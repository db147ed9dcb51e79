-- Blocks grow by one place, or by an interval without one.
use Rattle.std.proofs.Common.{◌*◌, zero, suc, ◌≡◌, ℕ, ◌+◌, ◌<◌, ◌≤◌, List, [], ◌∷◌, ◌++◌, Bool, true, false, ◌&&◌, ◌||◌, Option, Some, None, ap, sym}
use Rattle.std.proofs.Common.{◌∙◌, refl, length, arith, subst, inl, inr, length-append, add-one, get_or, append-nil}
use Rattle.std.specs.List.{AllPairs}
use Rattle.std.proofs.lemmas.Grind.{get_or_default_zero}
use Rattle.std.proofs.lemmas.List.Quantifiers.{all_pairs_push}
use Rattle.dist_rows.specs.Places.{AreRisingPlaces}
use Rattle.std.proofs.Math.ListN.{get_or-eq_default}
use Rattle.std.proofs.Math.Bool.{and-false}
use Rattle.std.proofs.lemmas.Bool.{cases_lt}
use Rattle.std.specs.Prelude.{◌==◌, if◌then◌else◌, nat_le, nat_lt, is_some}
use Rattle.std.proofs.lemmas.Bool.Decides.{nat_tests}
use Rattle.dist_rows.specs.declared.cell.Cell.{Cell}
use Rattle.dist_rows.specs.Cells.{are_neighbours}
use Rattle.elim_step.specs.Eliminates.{count_below, is_neighbour, is_below, is_negative, remains}
use Rattle.stn_walk.specs.Eliminations.{is_in}
use Rattle.elim_step.specs.Blocks.{IsBlock}
use Rattle.stn_walk.proofs.Members.{is_in-maybe, is_in-at}

pub count_below-gap : (test : ℕ → Bool) (a n : ℕ) → a ≤ n → ((m : ℕ) → a ≤ m → m < n → test m ≡ false) → count_below test n ≡ count_below test a
count_below-gap test a zero le gap = (let e : a ≡ 0 = omega arith in ap (count_below test) (sym e))
count_below-gap test a (suc n) le gap =
    elim (cases_lt n a) [
      | inl below ↦ let e : a ≡ suc n = omega arith in ap (count_below test) (sym e)
      | inr above ↦ rw (gap n above (omega arith)) (let e = count_below-gap test a n above (λ m l h. gap m l (omega arith)) in omega arith)
    ]

-- the same in two words
pub rising_pairs : (ns : List ℕ) → AreRisingPlaces ns → AllPairs (λ p q. p < q) ns
rising_pairs ns rising i j d less l = rw (get_or_default_zero ns i d (omega (arith, less, l)), get_or_default_zero ns j d l) (rising i j less l)

nothing : (a p : ℕ) (t : Bool) → false ≡ (nat_le a p && nat_lt p a && t)
nothing a p true = grind (arith, nat_tests)
nothing a p false = grind (arith, nat_tests)

pub block-empty : (test : ℕ → Bool) (a : ℕ) → IsBlock test a a []
block-empty test a = record { order = omega arith; rising = λ m n less l. absurd (omega (arith, l)); each = λ p. nothing a p (test p); count = omega arith }

pub block-member : (test : ℕ → Bool) (a b : ℕ) (ns : List ℕ) → IsBlock test a b ns → (p : ℕ) → is_in ns p ≡ true → (p < b) × (test p ≡ true)
block-member test a b ns is p here = read (test p) (sym (is.each p) ∙ here) where
  read : (t : Bool) → (nat_le a p && nat_lt p b && t) ≡ true → (p < b) × (t ≡ true)
  read true h = (grind (arith, nat_tests), refl)
  read false h = absurd (let e : (nat_le a p && nat_lt p b && false) ≡ false = and-false (nat_le a p && nat_lt p b) in let f : false ≡ true = sym e ∙ h in cc)

-- places that rise, behind which a greater one may stand
rising_wanted : (ns : List ℕ) (n : ℕ) (w : Bool) → AreRisingPlaces ns → ((m : ℕ) → m < length ns → get_or ns m 0 < n)
    → AreRisingPlaces (ns ++ (if w then n ∷ [] else []))
rising_wanted ns n false rising low m k less l = (let same : AreRisingPlaces (ns ++ []) = rw (append-nil ns) rising in same m k less l)
rising_wanted ns n true rising low m k less l = all_pairs_push (λ p q. p < q) ns n pairs last m k 0 less l where
  pairs : AllPairs (λ p q. p < q) ns
  pairs = rising_pairs ns rising

  last : (i d : ℕ) → i < length ns → get_or ns i d < n
  last i d lt = rw (get_or_default_zero ns i d lt) (low i lt)

more : (p a b n : ℕ) (x w t : Bool) → x ≡ (nat_le a p && nat_lt p b && t) → a ≤ b → b ≤ n → (p ≡ n → t ≡ w) → (b ≤ p → p < n → t ≡ false)
    → (x || (w && (p == n))) ≡ (nat_le a p && nat_lt p (n + 1) && t)
more p a b n x true true is order le here gap = rw is (grind (arith, nat_tests))
more p a b n x true false is order le here gap = rw is (grind (arith, nat_tests))
more p a b n x false true is order le here gap = rw is (grind (arith, nat_tests))
more p a b n x false false is order le here gap = rw is (grind (arith, nat_tests))

-- one place more, where it passes, and none before it
pub block-more : (test : ℕ → Bool) (a b n : ℕ) (wanted : Bool) (ns : List ℕ) → IsBlock test a b ns → b ≤ n → test n ≡ wanted
    → ((m : ℕ) → b ≤ m → m < n → test m ≡ false)
    → IsBlock test a (n + 1) (ns ++ (if wanted then n ∷ [] else []))
block-more test a b n wanted ns was le here gap = record {
  order = (let o = was.order in omega arith);
  rising = rising_wanted ns n wanted was.rising
      (λ m l. (let low = block-member test a b ns was (get_or ns m 0) (is_in-at ns m l) in let below = low.0 in omega (arith, below, le)));
  each = λ p. is_in-maybe ns n p wanted ∙ more p a b n (is_in ns p) wanted (test p) (was.each p) was.order le (λ e. ap test e ∙ here) (gap p);
  count = counted wanted here;
} where
  counted : (w : Bool) → test n ≡ w → length (ns ++ (if w then n ∷ [] else [])) + count_below test a ≡ count_below test (n + 1)
  counted w is =
      let e = count_below-gap test b n le gap in
      let c = was.count in
      let s : count_below test (n + 1) ≡ (if w then 1 else 0) + count_below test n = rw add-one (ap (λ b. (if b then 1 else 0) + count_below test n) is) in
      rw (length-append ns (if w then n ∷ [] else []), s)
      (elim w as (λ b. length ns + length (if b then n ∷ [] else []) + count_below test a ≡ (if b then 1 else 0) + count_below test n)
      [ true ↦ omega arith | false ↦ omega arith ])

longer : (p a b e : ℕ) (t : Bool) → a ≤ b → b ≤ e → (b ≤ p → p < e → t ≡ false) → (nat_le a p && nat_lt p b && t) ≡ (nat_le a p && nat_lt p e && t)
longer p a b e true order le gap = grind (arith, nat_tests)
longer p a b e false order le gap = grind (arith, nat_tests)

-- no place more
pub block-longer : (test : ℕ → Bool) (a b e : ℕ) (ns : List ℕ) → IsBlock test a b ns → b ≤ e → ((m : ℕ) → b ≤ m → m < e → test m ≡ false)
    → IsBlock test a e ns
block-longer test a b e ns was le gap = record {
  order = (let o = was.order in omega arith);
  rising = was.rising;
  each = λ p. was.each p ∙ longer p a b e (test p) was.order le (gap p);
  count = was.count ∙ sym (count_below-gap test b e le gap);
}

-- tests that agree have the same blocks
pub block-same : (s t : ℕ → Bool) (a b : ℕ) (ns : List ℕ) → ((p : ℕ) → s p ≡ t p) → IsBlock s a b ns → IsBlock t a b ns
block-same s t a b ns same = subst (λ (f : ℕ → Bool). IsBlock f a b ns) (λ i p. same p i)

pub block-away : (test : ℕ → Bool) (a b : ℕ) (ns : List ℕ) → IsBlock test a b ns → (p : ℕ) → test p ≡ false → is_in ns p ≡ false
block-away test a b ns is p away = is.each p ∙ ap (λ t. nat_le a p && nat_lt p b && t) away ∙ and-false (nat_le a p && nat_lt p b)

-- a place that remains is below the number of places
pub remains-within : (remain : List Bool) (p : ℕ) → remains remain p ≡ true → p < length remain
remains-within remain p h =
    elim (cases_lt p (length remain)) [
      | inl below ↦ below
      | inr above ↦ absurd (let e : remains remain p ≡ false = get_or-eq_default remain false above in let f : false ≡ true = sym e ∙ h in cc)
    ]

pub neighbour-within : (remain : List Bool) (f : ℕ → ℕ → Option Cell) (k p : ℕ) → is_neighbour remain f k p ≡ true → p < length remain
neighbour-within remain f k p h = remains-within remain p (first (remains remain p) (are_neighbours f k p) h) where
  first : (a b : Bool) → (a && b) ≡ true → a ≡ true
  first true b h = refl
  first false b h = h

pub neighbour-false : (remain : List Bool) (f : ℕ → ℕ → Option Cell) (k m : ℕ) → are_neighbours f k m ≡ false → is_neighbour remain f k m ≡ false
neighbour-false remain f k m h = rw h (and-false (remains remain m))

pub neighbour-here : (remain : List Bool) (f : ℕ → ℕ → Option Cell) (k m : ℕ) → are_neighbours f k m ≡ true → is_neighbour remain f k m ≡ remains remain m
neighbour-here remain f k m h = rw h (elim (remains remain m) as (λ b. (b && true) ≡ b) [ true ↦ refl | false ↦ refl ])

-- cells between k and others that are the same have the same neighbours of k
pub neighbour-same : (remain : List Bool) (f g : ℕ → ℕ → Option Cell) (k : ℕ) → ((p : ℕ) → g k p ≡ f k p) → ((p : ℕ) → g p k ≡ f p k) → (p : ℕ)
    → is_neighbour remain g k p ≡ is_neighbour remain f k p
neighbour-same remain f g k out back p = (λ i. remains remain p && (is_some (out p i) || is_some (back p i)))

pub neighbour-self : (remain : List Bool) (f : ℕ → ℕ → Option Cell) (k : ℕ) → f k k ≡ None → is_neighbour remain f k k ≡ false
neighbour-self remain f k none = neighbour-false remain f k k (rw none refl)

-- a place without a cell with k does not sum below 0
pub below-false : (remain : List Bool) (f : ℕ → ℕ → Option Cell) (k m : ℕ) → are_neighbours f k m ≡ false → is_below remain f k m ≡ false
below-false remain f k m h = none (remains remain m) (f k m) (f m k) h where
  none : (r : Bool) (a b : Option Cell) → (is_some a || is_some b) ≡ false → (r && is_negative a b) ≡ false
  none true None b h = refl
  none false None b h = refl
  none true (Some a) b h = absurd (cc)
  none false (Some a) b h = refl

-- the least places: those before a, those between a and n that are no neighbours of k, and n
pub below-more : (remain : List Bool) (f : ℕ → ℕ → Option Cell) (k a n : ℕ) → ((m : ℕ) → m < a → is_below remain f k m ≡ false)
    → ((m : ℕ) → a ≤ m → m < n → are_neighbours f k m ≡ false)
    → is_below remain f k n ≡ false → (m : ℕ) → m < n + 1 → is_below remain f k m ≡ false
below-more remain f k a n front gap last m low =
    elim (cases_lt m a) [
      | inl before ↦ front m before
      | inr from ↦ elim (cases_lt m n) [
        | inl between ↦ below-false remain f k m (gap m from between)
        | inr here ↦ subst (λ (x : ℕ). is_below remain f k x ≡ false) (let e : n ≡ m = omega arith in e) last
      ]
    ]

-- the count with one place more
pub count-step : (test : ℕ → Bool) (a n : ℕ) (w : Bool) → a ≤ n → test n ≡ w → ((m : ℕ) → a ≤ m → m < n → test m ≡ false)
    → count_below test (n + 1) ≡ count_below test a + (if w then 1 else 0)
count-step test a n w le is gap =
    let e = count_below-gap test a n le gap in
    let s : count_below test (n + 1) ≡ (if w then 1 else 0) + count_below test n = rw add-one (ap (λ b. (if b then 1 else 0) + count_below test n) is) in
    rw s (elim w as (λ b. (if b then 1 else 0) + count_below test n ≡ count_below test a + (if b then 1 else 0)) [ true ↦ omega arith | false ↦ omega arith ])

pub count-le : (test : ℕ → Bool) (a n : ℕ) → a ≤ n → count_below test a ≤ count_below test n
count-le test a zero le = (let e : a ≡ 0 = omega arith in rw e (omega arith))
count-le test a (suc n) le =
    elim (cases_lt n a) [
      | inl below ↦ let e : a ≡ suc n = omega arith in rw e (omega arith)
      | inr above ↦ let h = count-le test a n above in omega arith
    ]

-- cells between k and others that are the same have the same blocks
pub block-forward : (remain : List Bool) (f g : ℕ → ℕ → Option Cell) (k a b : ℕ) (ns : List ℕ) → ((p : ℕ) → g k p ≡ f k p) → ((p : ℕ) → g p k ≡ f p k)
    → IsBlock (is_neighbour remain f k) a b ns → IsBlock (is_neighbour remain g k) a b ns
block-forward remain f g k a b ns out back =
    block-same (is_neighbour remain f k) (is_neighbour remain g k) a b ns (λ p. sym (neighbour-same remain f g k out back p))

pub block-back : (remain : List Bool) (f g : ℕ → ℕ → Option Cell) (k a b : ℕ) (ns : List ℕ) → ((p : ℕ) → g k p ≡ f k p) → ((p : ℕ) → g p k ≡ f p k)
    → IsBlock (is_neighbour remain g k) a b ns → IsBlock (is_neighbour remain f k) a b ns
block-back remain f g k a b ns out back = block-same (is_neighbour remain g k) (is_neighbour remain f k) a b ns (neighbour-same remain f g k out back)

-- a place before the end of a block is before the block or in it, where it passes
pub block-cases : {P : Type 0} (test : ℕ → Bool) (a b : ℕ) (ns : List ℕ) → IsBlock test a b ns → (p : ℕ) → p < b → test p ≡ true → (p < a → P)
    → (is_in ns p ≡ true → P) → P
block-cases {P} test a b ns is p low passes before within =
    elim (cases_lt p a) [
      | inl below ↦ before below
      | inr above ↦ within (is.each p ∙ rw passes (grind (arith, nat_tests)))
    ]

-- the steps of the last block of rows
pub steps-whole : (start before after a b d : ℕ) → before ≡ start + b * d → after ≡ before + a * d → a + b ≡ d → after ≡ start + d * d
steps-whole start before after a b d first second all = rw (second, first, ← all) (grind arith)
