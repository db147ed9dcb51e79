-- Lists of arcs, and arcs by number (temporal constraints: Dechter, Meiri and Pearl 1991): no_arc, arc_at, from_at, to_at, bound_at.
-- An arc says that time(to) - time(from) is at most its bound.
use Rattle.std.specs.Prelude.{ℕ, ℤ, pos, List, slice_index_or}
use Rattle.stn_model.specs.declared.ids.Constraint.{Constraint}

-- what stands past the end of a list of arcs
abbrev pub no_arc : Constraint
no_arc = record { from = record { 0 = 0 }; to = record { 0 = 0 }; bound = pos 0 }

-- the arc of that number
abbrev pub arc_at : List Constraint → ℕ → Constraint
arc_at arcs n = slice_index_or arcs n no_arc

-- the point where the arc begins
abbrev pub from_at : List Constraint → ℕ → ℕ
from_at arcs n = (arc_at arcs n).from.0

-- the point where the arc ends
abbrev pub to_at : List Constraint → ℕ → ℕ
to_at arcs n = (arc_at arcs n).to.0

-- the bound of the arc
abbrev pub bound_at : List Constraint → ℕ → ℤ
bound_at arcs n = (arc_at arcs n).bound
