-- Room for joined pairs, row by row: listed_in, are_within, are_rising, row_room.
use Rattle.std.proofs.Common.{◌≡◌, ◌≢◌, ℕ, ◌<◌, List, [], ◌∷◌, Bool, true, false, ◌||◌, ◌&&◌, arith, ap, ◌∙◌, refl}
use Rattle.std.specs.Prelude.{◌==◌, not}
use Rattle.std.specs.List.{AllPairs}
use Rattle.std.proofs.lemmas.Bool.Decides.{nat_tests}
use Rattle.stn_walk.specs.Eliminations.{is_in}
use Rattle.stn_walk.proofs.Members.{is_in-at}
use Rattle.dist_rows.specs.Places.{lists, AreWithin, AreRisingPlaces}

-- two tests of whether a place is one of a list
pub listed_in : (xs : List ℕ) (p : ℕ) → lists xs p ≡ is_in xs p
listed_in [] p = refl
listed_in (x ∷ xs) p = ap (λ b. (p == x) || b) (listed_in xs p) ∙ or_turned (p == x) (is_in xs p) where
  or_turned : (a b : Bool) → (a || b) ≡ (b || a)
  or_turned true true = refl
  or_turned true false = refl
  or_turned false true = refl
  or_turned false false = refl

-- the places of a list whose members are below the size
pub are_within : (n : ℕ) (xs : List ℕ) → ((p : ℕ) → is_in xs p ≡ true → p < n) → AreWithin n xs
are_within n xs within m lt = within _ (is_in-at xs m lt)

pub are_rising : (xs : List ℕ) → AllPairs (λ p q. p < q) xs → AreRisingPlaces xs
are_rising xs rising m n less lt = rising m n 0 less lt

-- the room of a listed place
pub row_room : (k q : ℕ) (listed was : Bool) → k ≢ q → listed ≡ true → ((not (k == q) && (k == k) && listed) || was) ≡ true
row_room k q listed was apart is =
    let off : (k == q) ≡ false = grind (arith, nat_tests) in
    let on : (k == k) ≡ true = grind (arith, nat_tests) in
    rw (off, on, is) refl
