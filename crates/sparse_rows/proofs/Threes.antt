-- Lists of three places that rise.
use Rattle.std.proofs.Common.{zero, suc, ◌≡◌, ◌≢◌, ℕ, ◌<◌, [], ◌∷◌, Bool, true, ◌&&◌, ◌||◌, arith, refl}
use Rattle.std.specs.Prelude.{◌==◌, not}
use Rattle.std.proofs.lemmas.Bool.Decides.{nat_tests}
use Rattle.dist_rows.specs.Places.{lists, AreWithin, AreRisingPlaces}

pub three_within : (n a b c : ℕ) → a < b → b < c → c < n → AreWithin n (a ∷ b ∷ c ∷ [])
three_within n a b c ab bc cn zero l = omega (arith, ab, bc, cn)
three_within n a b c ab bc cn (suc zero) l = omega (arith, bc, cn)
three_within n a b c ab bc cn (suc (suc zero)) l = cn
three_within n a b c ab bc cn (suc (suc (suc m))) l = absurd (omega (arith, l))

pub three_rising : (a b c : ℕ) → a < b → b < c → AreRisingPlaces (a ∷ b ∷ c ∷ [])
three_rising a b c ab bc m zero less l = absurd (omega (arith, less))
three_rising a b c ab bc zero (suc zero) less l = ab
three_rising a b c ab bc zero (suc (suc zero)) less l = omega (arith, ab, bc)
three_rising a b c ab bc (suc m) (suc zero) less l = absurd (omega (arith, less))
three_rising a b c ab bc (suc zero) (suc (suc zero)) less l = bc
three_rising a b c ab bc (suc (suc m)) (suc (suc zero)) less l = absurd (omega (arith, less))
three_rising a b c ab bc m (suc (suc (suc n))) less l = absurd (omega (arith, l))

pub three_room : (room old : ℕ → ℕ → Bool) (i a b c : ℕ) → ((p q : ℕ) → room p q ≡ ((not (p == q) && (p == i) && lists (a ∷ b ∷ c ∷ []) q) || old p q))
    → (j : ℕ) → i ≢ j → lists (a ∷ b ∷ c ∷ []) j ≡ true → room i j ≡ true
three_room room old i a b c is j apart there = (let new : (not (i == j) && (i == i) && lists (a ∷ b ∷ c ∷ []) j)
    ≡ true = rw there (grind (arith, nat_tests)) in rw (is i j, new) refl)
