-- Generated names have the form of names, and differ.
use Rattle.std.proofs.Common.{◌≡◌, ℕ, ◌+◌, ◌*◌, ◌/◌, ◌%◌, ◌^◌, ◌<◌, ◌≤◌, true, nat_le, List, [], ◌∷◌, ◌++◌, length, refl, sym, ap, ◌∙◌, arith, length-append, decimal}
use Rattle.std.specs.List.{list_all}
use Rattle.std.specs.Cmp.Derive.{both_true}
use Rattle.std.specs.Str.Parse.{digits_value, AllDigits}
use Rattle.std.proofs.lemmas.Fmt.{decimal_is_IsNumeral, length-decimal-le}
use Rattle.std.proofs.lemmas.List.Folds.{list_all-append}
use Rattle.std.proofs.lemmas.Bool.Decides.{nat_tests}
use Rattle.std.proofs.Math.Nat.{div-le_self, mod-le}
use Rattle.std.proofs.lemmas.Nat.{div-add-mod'}
use Rattle.std.proofs.lemmas.Str.Parse.{tells_digits}
use Rattle.stn_model.specs.Refusals.{is_name, is_name_start, is_name_part}
use Rattle.net_gen.specs.Generated.{agent_name, point_name}

AllDigits-decimal : (n : ℕ) → n < 2 ^ 64 → AllDigits 10 (decimal n)
AllDigits-decimal n lt = (decimal_is_IsNumeral n lt).0.1

digit_is_part : (c : ℕ) → 48 ≤ c → c ≤ 57 → is_name_part c ≡ true
digit_is_part c low high = grind (arith, nat_tests)

digits_are_parts : (cs : List ℕ) → AllDigits 10 cs → list_all is_name_part cs ≡ true
digits_are_parts [] h = refl
digits_are_parts (c ∷ cs) h =
    let both = tells_digits.parts c cs h in
    both_true (digit_is_part c both.0.0 both.0.1) (digits_are_parts cs both.1)

is_name-from_parts : (cs : List ℕ) → list_all is_name_part cs ≡ true → length cs ≤ 63 → is_name (97 ∷ cs) ≡ true
is_name-from_parts cs parts short =
    let some : 1 ≤ length (97 ∷ cs) = omega arith in
    let few : length (97 ∷ cs) ≤ 64 = omega arith in
    let one : nat_le 1 (length (97 ∷ cs)) ≡ true = grind (arith, nat_tests) in
    let most : nat_le (length (97 ∷ cs)) 64 ≡ true = grind (arith, nat_tests) in
    let start : is_name_start 97 ≡ true = refl in
    both_true (both_true (both_true one most) start) parts

pub is_name-agent_name : (i : ℕ) → i < 2 ^ 32 → is_name (agent_name i) ≡ true
is_name-agent_name i lt =
    let short : length (decimal i) ≤ 10 = length-decimal-le 10 i (omega arith) (omega arith) (omega arith) in
    is_name-from_parts (decimal i) (digits_are_parts (decimal i) (AllDigits-decimal i (omega arith))) (omega arith)

pub is_name-point_name : (i k : ℕ) → i < 2 ^ 32 → k < 2 ^ 32 → is_name (point_name i k) ≡ true
is_name-point_name i k lt below =
    let short : length (decimal i) ≤ 10 = length-decimal-le 10 i (omega arith) (omega arith) (omega arith) in
    let short_too : length (decimal k) ≤ 10 = length-decimal-le 10 k (omega arith) (omega arith) (omega arith) in
    let front = digits_are_parts (decimal i) (AllDigits-decimal i (omega arith)) in
    let back = digits_are_parts (decimal k) (AllDigits-decimal k (omega arith)) in
    let parts : list_all is_name_part (decimal i ++ 112 ∷ decimal k) ≡ true =
    list_all-append is_name_part (decimal i) (112 ∷ decimal k) ∙ both_true front back in
    is_name-from_parts (decimal i ++ 112 ∷ decimal k) parts (omega (arith, length-append (decimal i) (112 ∷ decimal k)))

pub decimal_differs : (m n : ℕ) → m < 2 ^ 64 → n < 2 ^ 64 → decimal m ≡ decimal n → m ≡ n
decimal_differs m n lm ln e =
    sym (decimal_is_IsNumeral m lm).1 ∙ ap (digits_value 10) e ∙ (decimal_is_IsNumeral n ln).1

-- the letter between two texts of digits is where it is
parts_differ : (xs us ys vs : List ℕ) → AllDigits 10 xs → AllDigits 10 us → xs ++ 112 ∷ ys ≡ us ++ 112 ∷ vs → (xs ≡ us) × (ys ≡ vs)
parts_differ [] [] ys vs p q e =
    let rest : ys ≡ vs = cc in
    (refl, rest)
parts_differ [] (u ∷ us) ys vs p q e =
    let same : 112 ≡ u = cc in
    let range = (tells_digits.parts u us q).0 in
    let high : u ≤ 57 = range.1 in
    absurd (omega arith)
parts_differ (x ∷ xs) [] ys vs p q e =
    let same : x ≡ 112 = cc in
    let range = (tells_digits.parts x xs p).0 in
    let high : x ≤ 57 = range.1 in
    absurd (omega arith)
parts_differ (x ∷ xs) (u ∷ us) ys vs p q e =
    let first : x ≡ u = cc in
    let others : xs ++ 112 ∷ ys ≡ us ++ 112 ∷ vs = cc in
    let rest = parts_differ xs us ys vs (tells_digits.parts x xs p).1 (tells_digits.parts u us q).1 others in
    let front = rest.0 in
    let both : x ∷ xs ≡ u ∷ us = cc in
    (both, rest.1)

pub agent_names_differ : (i j : ℕ) → i < 2 ^ 32 → j < 2 ^ 32 → agent_name i ≡ agent_name j → i ≡ j
agent_names_differ i j li lj e =
    let rest : decimal i ≡ decimal j = cc in
    decimal_differs i j (omega arith) (omega arith) rest

pub place_names_differ : (w p q : ℕ) → p < 2 ^ 32 → q < 2 ^ 32 → point_name (p / w) (p % w) ≡ point_name (q / w) (q % w) → p ≡ q
place_names_differ w p q lp lq e =
    let pd = div-le_self p w in
    let qd = div-le_self q w in
    let pm = mod-le p w in
    let qm = mod-le q w in
    let rest : decimal (p / w) ++ 112 ∷ decimal (p % w) ≡ decimal (q / w) ++ 112 ∷ decimal (q % w) = cc in
    let parts = parts_differ (decimal (p / w)) (decimal (q / w)) (decimal (p % w)) (decimal (q % w)) (AllDigits-decimal (p / w) (omega arith)) (AllDigits-decimal (q / w) (omega arith)) rest in
    let agents : p / w ≡ q / w = decimal_differs (p / w) (q / w) (omega arith) (omega arith) parts.0 in
    let numbers : p % w ≡ q % w = decimal_differs (p % w) (q % w) (omega arith) (omega arith) parts.1 in
    sym (div-add-mod' p w) ∙ ap (λ (k : ℕ). k * w + p % w) agents ∙ ap (λ (k : ℕ). q / w * w + k) numbers ∙ div-add-mod' q w
