-- Fields: a line is cut at runs of spaces and tabs.
use Rattle.std.specs.Prelude.{ℕ, Bool, not, List, length, ◌==◌, ◌||◌, filter}
use Rattle.std.specs.List.{slice_split}

-- a space or a tab
abbrev pub is_blank : ℕ → Bool
is_blank b = b == 32 || b == 9

abbrev pub is_filled : List ℕ → Bool
is_filled part = not (length part == 0)

-- the runs of bytes between blanks
abbrev pub fields : List ℕ → List (List ℕ)
fields line = filter is_filled (slice_split is_blank line)
