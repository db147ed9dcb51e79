-- Numbers: an optional `-` and then 1 to 18 digits.
use Rattle.std.specs.Prelude.{ℕ, ℤ, pos, neg_ℤ, List, [], ◌∷◌, ◌==◌, ◌&&◌, length, nat_le, Option, Some, None, if◌then◌else◌}
use Rattle.std.specs.Option.{option_map}
use Rattle.std.specs.Str.{all_ascii_digits}
use Rattle.std.specs.Str.Parse.{digits_value}

-- the number that 1 to 18 digits write in decimal; leading zeros are read
abbrev pub magnitude_of : List ℕ → Option ℕ
magnitude_of ds = if nat_le 1 (length ds) && nat_le (length ds) 18 && all_ascii_digits ds then Some (digits_value 10 ds) else None

-- the number that a field writes, if it is one
abbrev pub number_of : List ℕ → Option ℤ
number_of [] = None
number_of (b ∷ bs) = if b == 45 then option_map (λ n. neg_ℤ (pos n)) (magnitude_of bs) else option_map pos (magnitude_of (b ∷ bs))
