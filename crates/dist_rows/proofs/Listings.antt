-- Listings grow by one place, and by an interval in which no other place passes the test.
use Rattle.std.proofs.Common.{zero, suc, ◌≡◌, ◌≢◌, ℕ, ◌<◌, ◌≤◌, List, [], ◌∷◌, ◌++◌, Bool, true, false, ◌&&◌, ◌||◌, ap, ◌∙◌, refl, length, arith}
use Rattle.std.specs.Prelude.{◌==◌, if◌then◌else◌, nat_le, nat_lt, slice_index_or}
use Rattle.std.proofs.lemmas.Bool.Decides.{nat_tests}
use Rattle.dist_rows.specs.Places.{lists, AreWithin, AreRisingPlaces, IsListing}

-- whether a place is one of a list behind which another place may stand
lists_put : (xs : List ℕ) (n : ℕ) (w : Bool) (p : ℕ) → lists (xs ++ (if w then n ∷ [] else [])) p ≡ (lists xs p || (w && (p == n)))
lists_put [] n true p = grind (arith, nat_tests)
lists_put [] n false p = refl
lists_put (x ∷ xs) n w p = ap (λ (b : Bool). (p == x) || b) (lists_put xs n w p) ∙ grouped (p == x) (lists xs p) (w && (p == n)) where
  grouped : (a b c : Bool) → (a || (b || c)) ≡ ((a || b) || c)
  grouped true b c = refl
  grouped false b c = refl

nothing : (a b p : ℕ) (t : Bool) → (a ≤ p → p < b → t ≡ false) → false ≡ (nat_le a p && nat_lt p b && t)
nothing a b p true gap = grind (arith, nat_tests)
nothing a b p false gap = grind (arith, nat_tests)

-- no place, where none passes
pub listing_empty : (test : ℕ → Bool) (a b : ℕ) → ((p : ℕ) → a ≤ p → p < b → test p ≡ false) → IsListing test a b []
listing_empty test a b gap = record { rising = λ m n less l. absurd (omega (arith, l)); each = λ p. nothing a b p (test p) (gap p) }

more : (p a b n c : ℕ) (x w t : Bool) → x ≡ (nat_le a p && nat_lt p b && t) → a ≤ n → b ≤ n → n < c → (p ≡ n → t ≡ w) → (b ≤ p → p < c → p ≢ n → t ≡ false)
    → (x || (w && (p == n))) ≡ (nat_le a p && nat_lt p c && t)
more p a b n c x true true is from le lt here gap = rw is (grind (arith, nat_tests))
more p a b n c x true false is from le lt here gap = rw is (grind (arith, nat_tests))
more p a b n c x false true is from le lt here gap = rw is (grind (arith, nat_tests))
more p a b n c x false false is from le lt here gap = rw is (grind (arith, nat_tests))

-- the places of a list are below a number, where each that is listed is
within_from_lists : (xs : List ℕ) (b : ℕ) → ((p : ℕ) → lists xs p ≡ true → p < b) → AreWithin b xs
within_from_lists [] b h m l = absurd (omega (arith, l))
within_from_lists (x ∷ xs) b h zero l = h x (let here : (x == x) ≡ true = grind (arith, nat_tests) in rw here refl)
within_from_lists (x ∷ xs) b h (suc m) l = within_from_lists xs b (λ p i. h p (either (p == x) (lists xs p) i)) m (omega (arith, l)) where
  either : (c d : Bool) → d ≡ true → (c || d) ≡ true
  either true d i = refl
  either false d i = i

-- places that rise, behind which a greater one may stand
rising_put : (xs : List ℕ) (n : ℕ) (w : Bool) → AreRisingPlaces xs → AreWithin n xs → AreRisingPlaces (xs ++ (if w then n ∷ [] else []))
rising_put [] n true rising within m k less l = absurd (omega (arith, less, l))
rising_put [] n false rising within m k less l = absurd (omega (arith, l))
rising_put (x ∷ xs) n w rising within m zero less l = absurd (omega (arith, less))
rising_put (x ∷ xs) n w rising within zero (suc k) less l = first xs w k (λ j i. rising 0 (suc j) (omega arith) (omega (arith, i))) (within 0 (omega arith))
    (omega (arith, l)) where
      first : (ys : List ℕ) (v : Bool) (j : ℕ) → ((i : ℕ) → i < length ys → x < slice_index_or ys i 0) → x < n → j < length (ys ++ (if v then n ∷ [] else []))
          → x < slice_index_or (ys ++ (if v then n ∷ [] else [])) j 0
      first [] true zero up lt i = lt
      first [] true (suc j) up lt i = absurd (omega (arith, i))
      first [] false j up lt i = absurd (omega (arith, i))
      first (y ∷ ys) v zero up lt i = up 0 (omega arith)
      first (y ∷ ys) v (suc j) up lt i = first ys v j (λ h g. up (suc h) (omega (arith, g))) lt (omega (arith, i))
rising_put (x ∷ xs) n w rising within (suc m) (suc k) less l =
    rising_put xs n w (λ i j a b. rising (suc i) (suc j) (omega (arith, a)) (omega (arith, b))) (λ i a. within (suc i) (omega (arith, a))) m k
    (omega (arith, less)) (omega (arith, l))

listed_below : (a b p : ℕ) (x t : Bool) → x ≡ (nat_le a p && nat_lt p b && t) → x ≡ true → p < b
listed_below a b p x true is h = grind (arith, nat_tests)
listed_below a b p x false is h = grind (arith, nat_tests)

-- one place more, where it passes, and the interval up to another place before which no other one passes
pub listing_more : (test : ℕ → Bool) (a b n c : ℕ) (w : Bool) (xs : List ℕ) → IsListing test a b xs → a ≤ n → b ≤ n → n < c → test n ≡ w
    → ((p : ℕ) → b ≤ p → p < c → p ≢ n → test p ≡ false) → IsListing test a c (xs ++ (if w then n ∷ [] else []))
listing_more test a b n c w xs was from le lt here gap = record {
  rising = rising_put xs n w was.rising (λ m l. (let below = within_from_lists xs b (λ p h. listed_below a b p (lists xs p) (test p) (was.each p) h) m l in
      omega (arith, below, le)));
  each = λ p. lists_put xs n w p ∙ more p a b n c (lists xs p) w (test p) (was.each p) from le lt (λ e. ap test e ∙ here) (gap p);
}
