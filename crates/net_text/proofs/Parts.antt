-- The first line of a text.
use Rattle.std.proofs.Common.{◌≡◌, ℕ, ◌+◌, ◌<◌, ◌≤◌, ◌==◌, Bool, true, false, cond, List, [], ◌∷◌, length, take, drop, refl, sym, ap, ◌∙◌, arith, Some, None, subst, nat_lt}
use Rattle.std.specs.List.{onto_first, position, position_or_len}
use Rattle.std.proofs.lemmas.Bool.Decides.{nat_tests}
use Rattle.std.proofs.lemmas.List.{length-take-le, drop_all}
use Rattle.std.proofs.lemmas.List.Splits.{slice_split_first, slice_split_none}
use Rattle.std.proofs.lemmas.List.Sums.{position_or_len_is, fails_before_first}
use Rattle.std.proofs.lemmas.List.Quantifiers.{position-Some}
use Rattle.net_text.specs.Lines.{parts, line_of, lines_of, lines, Sized, IsFirstLine}

abbrev is_feed : ℕ → Bool
is_feed b = b == 10

abbrev pub onto : List ℕ → List (List ℕ) → Type 0
onto part ps = lines_of (part ∷ ps) ≡ record { text = line_of part; size = length part + 1 } ∷ lines_of ps

-- a text has a part, so a part before it is not its last one
pub lines_before : (part bytes : List ℕ) → onto part (parts bytes)
lines_before part [] = refl
lines_before part (b ∷ bs) =
    elim (is_feed b) as (λ t. onto part (cond t ([] ∷ parts bs) (onto_first b (parts bs)))) [
      | true ↦ refl
      | false ↦ elim (parts bs) as (λ ps. onto part (onto_first b ps)) [ [] ↦ refl | p ∷ ps ↦ refl ]
    ]

-- a line that a line feed ends
pub fed_line : (bytes : List ℕ) (n : ℕ) (text : List ℕ)
    → position (λ b. b == 10) bytes ≡ Some n → text ≡ line_of (take n bytes) → IsFirstLine bytes text (n + 1)
fed_line bytes n text at is =
    let here = position-Some is_feed bytes n 0 at in
    let low : n < length bytes = here.0 in
    let stands : position_or_len is_feed bytes ≡ n = position_or_len_is is_feed bytes n 0 (omega arith) here.2 (λ _. here.1) in
    let before : position_or_len is_feed bytes < length bytes = omega arith in
    let split : parts bytes ≡ take n bytes ∷ parts (drop (n + 1) bytes) =
    subst (λ (k : ℕ). parts bytes ≡ take k bytes ∷ parts (drop (k + 1) bytes)) stands (slice_split_first is_feed bytes 0 before) in
    let size : length (take n bytes) ≡ n = length-take-le n bytes (omega arith) in
    let joined = ap lines_of split ∙ lines_before (take n bytes) (drop (n + 1) bytes) in
    record { fits = omega arith; moves = omega arith; splits = cc }

-- without a line feed the place of the first one is the end
all_before : (bytes : List ℕ) → position (λ b. b == 10) bytes ≡ None → length bytes ≤ position_or_len is_feed bytes
all_before bytes nowhere =
    (elim (nat_lt (position_or_len is_feed bytes) (length bytes)) as
    (λ t. nat_lt (position_or_len is_feed bytes) (length bytes) ≡ t
    → cond t (Some (position_or_len is_feed bytes)) None ≡ None → length bytes ≤ position_or_len is_feed bytes) [
      | true ↦ λ e h. absurd (cc)
      | false ↦ λ e h. grind (arith, nat_tests)
    ]) refl nowhere

-- a text without a line feed is its one part
one_part : (bytes : List ℕ) → position (λ b. b == 10) bytes ≡ None → parts bytes ≡ bytes ∷ []
one_part bytes nowhere =
    let far = all_before bytes nowhere in slice_split_none is_feed bytes (λ k d lt. fails_before_first is_feed bytes k d (omega arith))

-- the last part is a line where a byte is left of it
lines_of_one : (part : List ℕ) → 0 < length (line_of part) → lines_of (part ∷ []) ≡ record { text = line_of part; size = length part } ∷ []
lines_of_one part some =
    let one : List Sized = record { text = line_of part; size = length part } ∷ [] in
    (elim (length (line_of part) == 0) as (λ t. (length (line_of part) == 0) ≡ t → cond t [] one ≡ one) [
      | true ↦ λ e. absurd (grind (arith, nat_tests))
      | false ↦ λ e. refl
    ]) refl

lines_of_none : (part : List ℕ) → length (line_of part) ≡ 0 → lines_of (part ∷ []) ≡ []
lines_of_none part none =
    let one : List Sized = record { text = line_of part; size = length part } ∷ [] in
    (elim (length (line_of part) == 0) as (λ t. (length (line_of part) == 0) ≡ t → cond t [] one ≡ []) [
      | true ↦ λ e. refl
      | false ↦ λ e. absurd (grind (arith, nat_tests))
    ]) refl

pub some_byte : (part : List ℕ) → 0 < length (line_of part) → 0 < length part
some_byte [] h = h
some_byte (b ∷ bs) h = omega arith

-- the last line
pub last_line : (bytes text : List ℕ) → position (λ b. b == 10) bytes ≡ None → text ≡ line_of bytes → 0 < length text → IsFirstLine bytes text (length bytes)
last_line bytes text nowhere is some =
    let left : 0 < length (line_of bytes) = subst (λ (t : List ℕ). 0 < length t) is some in
    let one = ap lines_of (one_part bytes nowhere) ∙ lines_of_one bytes left in
    let end : drop (length bytes) bytes ≡ [] = drop_all (length bytes) bytes (omega arith) in
    let after : lines (drop (length bytes) bytes) ≡ [] = ap lines end in
    record { fits = omega arith; moves = some_byte bytes left; splits = cc }

pub no_line : (bytes text : List ℕ) → position (λ b. b == 10) bytes ≡ None → text ≡ line_of bytes → length text ≡ 0 → lines bytes ≡ []
no_line bytes text nowhere is none = ap lines_of (one_part bytes nowhere) ∙ lines_of_none bytes (ap length (sym is) ∙ none)
