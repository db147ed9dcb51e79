-- A written number is read as itself.
use Rattle.std.proofs.Common.{◌≡◌, ℕ, suc, ◌^◌, ◌<◌, ◌≤◌, ℤ, pos, negsuc, neg_ℤ, ◌≤ℤ◌, nat_abs, true, false, ◌&&◌, ◌==◌, nat_le, List, [], ◌∷◌, length, Some, None, refl, ap, ◌∙◌, arith, if◌then◌else◌}
use Rattle.std.specs.List.{list_all}
use Rattle.std.specs.Option.{option_map}
use Rattle.std.specs.Str.{all_ascii_digits}
use Rattle.std.specs.Char.{is_ascii_digit}
use Rattle.std.specs.Str.Parse.{digits_value}
use Rattle.std.specs.Fmt.{decimal, signed_decimal}
use Rattle.std.proofs.lemmas.Bool.{and_parts, and_from, le-leb}
use Rattle.std.proofs.lemmas.Bool.Decides.{nat_tests}
use Rattle.std.proofs.lemmas.Int.{ints}
use Rattle.std.proofs.lemmas.Str.Parse.{IsNumeralModel, numerals_by_value, tells_all_ascii_digits}
use Rattle.std.proofs.lemmas.Fmt.{digits_decimal, digits_value-decimal, decimal_nonempty, length-decimal-le}
use Rattle.net_text.specs.Numbers.{magnitude_of, number_of}
use Rattle.net_text.proofs.FieldsOfLines.{IsField, is_solid, filled_from_length}

own : IsNumeralModel (λ ds. all_ascii_digits ds ≡ true) (digits_value 10)
own = numerals_by_value (λ ds. all_ascii_digits ds ≡ true) tells_all_ascii_digits

digits_solid : (ds : List ℕ) → all_ascii_digits ds ≡ true → list_all is_solid ds ≡ true
digits_solid [] h = refl
digits_solid (d ∷ ds) h =
    let digit : is_ascii_digit d ≡ true = (and_parts (is_ascii_digit d) (all_ascii_digits ds) h).0 in
    let rest : all_ascii_digits ds ≡ true = (and_parts (is_ascii_digit d) (all_ascii_digits ds) h).1 in
    and_from (is_solid d) (list_all is_solid ds) (solid_digit d digit) (digits_solid ds rest)
  where
    solid_digit : (d : ℕ) → is_ascii_digit d ≡ true → is_solid d ≡ true
    solid_digit d h = grind (arith, nat_tests)

decimal_is_field : (n : ℕ) → n < 2 ^ 64 → IsField (decimal n)
decimal_is_field n small = record {
  filled = filled_from_length (decimal n) (decimal_nonempty n small);
  solid = digits_solid (decimal n) (digits_decimal own n small);
}

magnitude-decimal : (n : ℕ) → n < 1000000000000000000 → magnitude_of (decimal n) ≡ Some n
magnitude-decimal n small =
    let low : nat_le 1 (length (decimal n)) ≡ true = le-leb 1 (length (decimal n)) (decimal_nonempty n (omega arith)) in
    let high : nat_le (length (decimal n)) 18 ≡ true = le-leb (length (decimal n)) 18 (length-decimal-le 18 n (omega arith) (omega arith) (omega arith)) in
    let digits : all_ascii_digits (decimal n) ≡ true = digits_decimal own n (omega arith) in
    let value : digits_value 10 (decimal n) ≡ n = digits_value-decimal own n (omega arith) in
    ap (λ b. if b then Some (digits_value 10 (decimal n)) else None)
    (and_from (nat_le 1 (length (decimal n)) && nat_le (length (decimal n)) 18) (all_ascii_digits (decimal n))
    (and_from (nat_le 1 (length (decimal n))) (nat_le (length (decimal n)) 18) low high) digits)
    ∙ ap Some value

-- digits have no sign
number_plain : (ds : List ℕ) → all_ascii_digits ds ≡ true → 0 < length ds → number_of ds ≡ option_map pos (magnitude_of ds)
number_plain [] h some = absurd (omega arith)
number_plain (d ∷ ds) h some =
    ap (λ b. if b then option_map (λ n. neg_ℤ (pos n)) (magnitude_of ds) else option_map pos (magnitude_of (d ∷ ds)))
    (no_sign d (and_parts (is_ascii_digit d) (all_ascii_digits ds) h).0)
  where
    no_sign : (d : ℕ) → is_ascii_digit d ≡ true → (d == 45) ≡ false
    no_sign d h = grind (arith, nat_tests)

-- a number of at most 18 digits
pub number_back : (z : ℤ) → nat_abs z < 1000000000000000000 → number_of (signed_decimal z) ≡ Some z
number_back (pos n) small =
    number_plain (decimal n) (digits_decimal own n (omega arith)) (decimal_nonempty n (omega arith)) ∙ ap (option_map pos) (magnitude-decimal n small)
number_back (negsuc n) small = ap (option_map (λ k. neg_ℤ (pos k))) (magnitude-decimal (suc n) small)

pub short_is_field : (z : ℤ) → nat_abs z < 1000000000000000000 → IsField (signed_decimal z)
short_is_field (pos n) small = decimal_is_field n (omega arith)
short_is_field (negsuc n) small =
    record { filled = filled_from_length (signed_decimal (negsuc n)) (omega arith); solid = (decimal_is_field (suc n) (omega arith)).solid }

-- so is a number that a network may have
pub bound_short : (z : ℤ) → neg_ℤ (pos 1099511627776) ≤ℤ z → z ≤ℤ pos 1099511627776 → nat_abs z < 1000000000000000000
bound_short (pos n) low high = let small : n ≤ 1099511627776 = omega (arith, ints) in omega arith
bound_short (negsuc n) low high = let small : suc n ≤ 1099511627776 = omega (arith, ints) in omega arith

pub number-signed_decimal : (z : ℤ) → neg_ℤ (pos 1099511627776) ≤ℤ z → z ≤ℤ pos 1099511627776 → number_of (signed_decimal z) ≡ Some z
number-signed_decimal z low high = number_back z (bound_short z low high)

pub number_is_field : (z : ℤ) → neg_ℤ (pos 1099511627776) ≤ℤ z → z ≤ℤ pos 1099511627776 → IsField (signed_decimal z)
number_is_field z low high = short_is_field z (bound_short z low high)
