-- Lines: `parts` between line feeds, `line_of` a part, the `lines` of a text, whether a line `is_skipped`, and whether it `is_text`.
use Rattle.std.specs.Prelude.{◌≡◌, ℕ, ◌+◌, ◌<◌, ◌≤◌, drop, Bool, true, List, [], ◌∷◌, ◌==◌, ◌&&◌, ◌||◌, nat_le, length, if◌then◌else◌, Option, Some, None}
use Rattle.std.specs.List.{list_all, slice_split}
use Rattle.std.specs.Str.Lines.{strip_carriage_return}
use Rattle.net_text.specs.Fields.{is_blank}

-- what stands before, between and after the line feeds of a text
abbrev pub parts : List ℕ → List (List ℕ)
parts bytes = slice_split (λ b. b == 10) bytes

-- the line of a part: one carriage return at its end is dropped
abbrev pub line_of : List ℕ → List ℕ
line_of part = strip_carriage_return part

-- a line, and how many bytes it takes with what ends it
pub record Sized : Type 0 where
  pub text : List ℕ
  pub size : ℕ

-- the lines of the parts of a text; the last part is one where a byte is left beside a carriage return at its end
abbrev pub lines_of : List (List ℕ) → List Sized
lines_of [] = []
lines_of (part ∷ []) = if length (line_of part) == 0 then [] else record { text = line_of part; size = length part } ∷ []
lines_of (part ∷ next ∷ more) = record { text = line_of part; size = length part + 1 } ∷ lines_of (next ∷ more)

-- the lines of a text
abbrev pub lines : List ℕ → List Sized
lines bytes = lines_of (parts bytes)

-- a text's first line, and how many bytes it takes: what follows these are the other lines
pub record IsFirstLine (bytes line : List ℕ) (size : ℕ) : Type 0 where
  pub fits : size ≤ length bytes
  pub moves : 0 < size
  pub splits : lines bytes ≡ record { text = line; size = size } ∷ lines (drop size bytes)

-- nothing of the text was taken
pub record IsWhole (bytes rest : List ℕ) (used count : ℕ) : Type 0 where
  pub all : rest ≡ bytes
  pub unused : used ≡ 0
  pub none : count ≡ 0

-- a line was taken from what was left of a text
pub record IsTaken (rest : List ℕ) (used count : ℕ) (line left : List ℕ) (used_after count_after : ℕ) : Type 0 where
  pub size : ℕ
  pub first : IsFirstLine rest line size
  pub drops : left ≡ drop size rest
  pub uses : used_after ≡ used + size
  pub one_more : count_after ≡ count + 1

-- a tab, or a byte from 32 to 126
abbrev pub is_text_byte : ℕ → Bool
is_text_byte b = b == 9 || (nat_le 32 b && nat_le b 126)

abbrev pub is_text : List ℕ → Bool
is_text line = list_all is_text_byte line

-- a line of blanks alone is skipped, and so is a comment, whose first byte beside blanks is `#`; the rest of it may be any bytes
abbrev pub is_skipped : List ℕ → Bool
is_skipped [] = true
is_skipped (b ∷ bs) = if is_blank b then is_skipped bs else b == 35

-- the last byte is a line feed
abbrev pub EndsInFeed : List ℕ → Type 0
EndsInFeed [] = ⊥
EndsInFeed (b ∷ []) = b ≡ 10
EndsInFeed (b ∷ c ∷ bs) = EndsInFeed (c ∷ bs)

-- the number of the first line that is not skipped, where the first line has that number
abbrev pub first_unskipped : ℕ → List Sized → Option ℕ
first_unskipped number [] = None
first_unskipped number (line ∷ more) = if is_skipped line.text then first_unskipped (number + 1) more else Some number
