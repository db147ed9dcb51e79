-- The value of digits, digit by digit.
use Rattle.std.proofs.Common.{◌≡◌, ℕ, ◌+◌, ◌-◌, ◌*◌, ◌<◌, ◌≤◌, ◌&&◌, true, List, [], ◌∷◌, length, take, get_or, refl, sym, ap, ◌∙◌, arith}
use Rattle.std.specs.List.{list_all}
use Rattle.std.specs.Char.{is_ascii_digit, digit_value}
use Rattle.std.specs.Str.{all_ascii_digits}
use Rattle.std.specs.Str.Parse.{digits_value}
use Rattle.std.proofs.lemmas.Bool.{and_from}
use Rattle.std.proofs.lemmas.Bool.Decides.{nat_tests}
use Rattle.std.proofs.lemmas.List.{length-take-le}
use Rattle.std.proofs.lemmas.List.Folds.{list_all_more}
use Rattle.std.proofs.lemmas.Str.Parse.{tells_all_ascii_digits, numerals_by_value, IsNumeralModel, digits_value_short}
use Rattle.std.proofs.lemmas.Str.{digit_value_digit}
use Rattle.std.proofs.lemmas.Int.Digits.{digits_value_more}

pub are_digits : (ds : List ℕ) → list_all is_ascii_digit ds ≡ all_ascii_digits ds
are_digits [] = refl
are_digits (c ∷ cs) = ap (λ t. is_ascii_digit c && t) (are_digits cs)

own : IsNumeralModel (λ ds. all_ascii_digits ds ≡ true) (digits_value 10)
own = numerals_by_value (λ ds. all_ascii_digits ds ≡ true) tells_all_ascii_digits

pub digits_below : (ds : List ℕ) → length ds ≤ 18 → list_all is_ascii_digit ds ≡ true → digits_value 10 ds < 1000000000000000000
digits_below ds few all = digits_value_short own ds 18 (sym (are_digits ds) ∙ all) few

-- after i digits another one, and what it adds
pub record IsDigitAt (ds : List ℕ) (i : ℕ) : Type 0 where
  pub low : 48 ≤ get_or ds i 0
  pub high : get_or ds i 0 ≤ 57
  pub all : list_all is_ascii_digit (take (i + 1) ds) ≡ true
  pub value : digits_value 10 (take (i + 1) ds) ≡ digits_value 10 (take i ds) * 10 + (get_or ds i 0 - 48)
  pub below : digits_value 10 (take (i + 1) ds) < 1000000000000000000

pub digit_read : (ds : List ℕ) (i : ℕ) → i < length ds → length ds ≤ 18 → list_all is_ascii_digit (take i ds) ≡ true
    → is_ascii_digit (get_or ds i 0) ≡ true → IsDigitAt ds i
digit_read ds i lt few before here =
    let range : (48 ≤ get_or ds i 0) × (get_or ds i 0 ≤ 57) = grind (arith, nat_tests) in
    let same : digit_value (get_or ds i 0) + 48 ≡ get_or ds i 0 = digit_value_digit (get_or ds i 0) range in
    let more = digits_value_more 10 ds i lt in
    let all : list_all is_ascii_digit (take (i + 1) ds) ≡ true =
    list_all_more is_ascii_digit ds i 0 lt ∙ and_from (list_all is_ascii_digit (take i ds)) (is_ascii_digit (get_or ds i 0)) before here in
    let below = digits_below (take (i + 1) ds) (omega (arith, length-take-le (i + 1) ds (omega arith))) all in
    record { low = range.0; high = range.1; all = all; value = omega arith; below = below }

-- so far the bytes are digits of that value
pub record IsRead (ds : List ℕ) (i n : ℕ) : Type 0 where
  pub all : list_all is_ascii_digit (take i ds) ≡ true
  pub value : n ≡ digits_value 10 (take i ds)
  pub below : n < 1000000000000000000

pub one_more : (ds : List ℕ) (i n : ℕ) → i < length ds → length ds ≤ 18 → is_ascii_digit (get_or ds i 0) ≡ true
    → IsRead ds i n → IsRead ds (i + 1) (n * 10 + (get_or ds i 0 - 48))
one_more ds i n lt few here h =
    let d = digit_read ds i lt few h.all here in
    record { all = d.all; value = omega (arith, h.value, d.value); below = omega (arith, h.value, d.value, d.below) }
