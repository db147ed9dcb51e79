-- Tests that are joined by `and`, and tests of numbers.
use Rattle.std.proofs.Common.{◌≡◌, ◌≢◌, ℕ, ℤ, ◌<◌, ◌≤◌, ◌<ℤ◌, ◌≤ℤ◌, Bool, true, false, ◌&&◌, ◌||◌, nat_eq, nat_lt, nat_le, int_lt, refl, sym, arith}
use Rattle.std.proofs.lemmas.Bool.{false≢true}
use Rattle.std.proofs.lemmas.Bool.Decides.{nat_tests}
use Rattle.std.proofs.lemmas.Int.{ints}

pub left_of : (a b : Bool) → (a && b) ≡ true → a ≡ true
left_of true b h = refl
left_of false b h = h

pub right_of : (a b : Bool) → (a && b) ≡ true → b ≡ true
right_of true b h = h
right_of false b h = absurd (false≢true h)

pub both : (a b : Bool) → a ≡ true → b ≡ true → (a && b) ≡ true
both true b p q = q
both false b p q = p

pub left_fails : (a b : Bool) → (a || b) ≡ false → a ≡ false
left_fails true b h = h
left_fails false b h = refl

pub right_fails : (a b : Bool) → (a || b) ≡ false → b ≡ false
right_fails true b h = absurd (false≢true (sym h))
right_fails false b h = h

pub neither : (a b : Bool) → a ≡ false → b ≡ false → (a || b) ≡ false
neither true b p q = p
neither false b p q = q

pub agree : (a b : Bool) → (a ≡ true → b ≡ true) → (b ≡ true → a ≡ true) → a ≡ b
agree true true p q = refl
agree true false p q = sym (p refl)
agree false true p q = q refl
agree false false p q = refl

pub same : (i j : ℕ) → nat_eq i j ≡ true → i ≡ j
same i j e = grind (arith, nat_tests)

pub is_same : (i j : ℕ) → i ≡ j → nat_eq i j ≡ true
is_same i j e = grind (arith, nat_tests)

pub apart : (i j : ℕ) → nat_eq i j ≡ false → i ≢ j
apart i j e = grind (arith, nat_tests)

pub is_apart : (i j : ℕ) → i ≢ j → nat_eq i j ≡ false
is_apart i j e = grind (arith, nat_tests)

pub below : (i j : ℕ) → nat_lt i j ≡ true → i < j
below i j e = grind (arith, nat_tests)

pub is_below : (i j : ℕ) → i < j → nat_lt i j ≡ true
is_below i j e = grind (arith, nat_tests)

pub at_most : (i j : ℕ) → nat_le i j ≡ true → i ≤ j
at_most i j e = grind (arith, nat_tests)

pub is_at_most : (i j : ℕ) → i ≤ j → nat_le i j ≡ true
is_at_most i j e = grind (arith, nat_tests)

pub less : (x y : ℤ) → int_lt x y ≡ true → x <ℤ y
less x y e = grind (arith, ints)

pub is_less : (x y : ℤ) → x <ℤ y → int_lt x y ≡ true
is_less x y e = grind (arith, ints)

pub no_less : (x y : ℤ) → int_lt x y ≡ false → y ≤ℤ x
no_less x y e = grind (arith, ints)
