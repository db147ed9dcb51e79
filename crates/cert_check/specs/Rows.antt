-- Rows: for each point a distance from one point, where it has one already: Row, distance_to, first_row, is_missing, is_broken.
use Rattle.std.specs.Prelude.{ℕ, ℤ, pos, ◌+ℤ◌, Bool, false, not, List, replicate, set, slice_index_or, int_lt, is_some, Option, Some, None}
use Rattle.stn_model.specs.declared.ids.Constraint.{Constraint}

abbrev pub Row : Type 0
Row = List (Option ℤ)

-- the distance of a point, if it has one
abbrev pub distance_to : Row → ℕ → Option ℤ
distance_to row p = slice_index_or row p None

-- that of the section's own point is 0, and no other point has one
abbrev pub first_row : ℕ → ℕ → Row
first_row points from = set (replicate points None) from (Some (pos 0))

abbrev pub is_missing : Option ℤ → Bool
is_missing d = not (is_some d)

-- one of two distances is more than the other and a bound
abbrev pub exceeds : Option ℤ → ℤ → Option ℤ → Bool
exceeds None bound e = false
exceeds (Some d) bound None = false
exceeds (Some d) bound (Some e) = int_lt (d +ℤ bound) e

-- the distance of the arc's end is more than that of its beginning and its bound
abbrev pub is_broken : Row → Constraint → Bool
is_broken row a = exceeds (distance_to row a.from.0) a.bound (distance_to row a.to.0)
