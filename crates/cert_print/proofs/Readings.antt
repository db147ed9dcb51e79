-- Numbers and their tests, as a checker reads them.
use Rattle.std.proofs.Common.{◌≡◌, ℕ, ◌<◌, ◌≤◌, ℤ, pos, Bool, false, List, int_lt, Option, Some, None, Result, Ok, Err, refl, ap, ◌∙◌, arith, if◌then◌else◌}
use Rattle.std.specs.Fmt.{decimal}
use Rattle.std.proofs.lemmas.Cmp.{int_eq_equiv}
use Rattle.std.proofs.lemmas.Int.{ints}
use Rattle.stn_model.specs.Limits.{greatest_bound}
use Rattle.net_text.specs.Numbers.{number_of}
use Rattle.net_text.proofs.FieldsOfLines.{IsField}
use Rattle.net_text.proofs.NumbersBack.{number-signed_decimal, number_is_field}
use Rattle.cert_check.specs.declared.verdict.CertCause.{CertCause}
use Rattle.cert_check.specs.declared.verdict.CertCause.TheVariants as cause
use Rattle.cert_check.proofs.Decided.{is_below}
use Rattle.cert_check.specs.Certificates.{number_in, index_in, kept_as, number_below, and_then}

pub number-decimal : (n : ℕ) → n ≤ greatest_bound → number_of (decimal n) ≡ Some (pos n)
number-decimal n small = number-signed_decimal (pos n) (omega (arith, ints)) (omega (arith, ints))

pub decimal_is_field : (n : ℕ) → n ≤ greatest_bound → IsField (decimal n)
decimal_is_field n small = number_is_field (pos n) (omega (arith, ints)) (omega (arith, ints))

pub number_in_is : (f : List ℕ) (z : ℤ) → number_of f ≡ Some z → number_in f ≡ Ok z
number_in_is f z e = by (number_of f) e
  where
    by : (r : Option ℤ) → r ≡ Some z → ◌≡◌ {A = Result ℤ CertCause} (elim r [ None ↦ Err cause.NumberBad | Some n ↦ Ok n ]) (Ok z)
    by r e = rw e refl

pub index_in_is : (n : ℕ) → n ≤ greatest_bound → index_in (decimal n) ≡ Ok (pos n)
index_in_is n small =
    let fits : int_lt (pos n) (pos 0) ≡ false = grind (arith, ints) in
    ap (λ (r : Result ℤ CertCause). and_then r (λ (m : ℤ). if int_lt m (pos 0) then Err cause.NumberBad else Ok m)) (number_in_is (decimal n) (pos n) (number-decimal n small))
    ∙ ap (λ (b : Bool). if b then Err cause.NumberBad else Ok (pos n)) fits

pub kept_same : (z : ℤ) → kept_as z z ≡ Ok z
kept_same z = ap (λ (b : Bool). if b then Ok z else Err (cause.WrongValue z z)) (int_eq_equiv.refl z)

pub number_below_is : (limit n : ℕ) → n < limit → number_below limit (pos n) ≡ Some n
number_below_is limit n lt = ap (λ (b : Bool). if b then Some n else None) (is_below n limit lt)
