-- The entries of a summary, pair by pair, where all private points are taken: forward_at, joined_at, is_pair_at, entry_at, pair_entries, row_below, row_of,
-- rows_below, is_over.
use Rattle.std.specs.Prelude.{ℕ, zero, suc, ℤ, int_lt, List, [], ◌∷◌, ◌++◌, length, reverse, Bool, true, ◌&&◌, not, ◌==◌, Option, Some, None, if◌then◌else◌}
use Rattle.stn_model.specs.Summaries.{entry_weight}
use Rattle.stn_walk.specs.Eliminations.{before_both}
use Rattle.stn_walk.specs.Joins.{joined_of}
use Rattle.elim_step.specs.Eliminated.{forward_of, point_at}
use Rattle.elim_step.specs.declared.summary.SummaryEntry.{SummaryEntry}
use Rattle.private_elim.specs.Locals.{arcs_in, private_at, horizon_in}
use Rattle.private_elim.specs.Taken.{TakenView}

-- the forward weight between two places
abbrev pub forward_at : TakenView → ℕ → ℕ → Option ℤ
forward_at t i j = forward_of (arcs_in t.local) (reverse t.order) (point_at t.local.points i) (point_at t.local.points j)

-- whether two places are joined
abbrev pub joined_at : TakenView → ℕ → ℕ → Bool
joined_at t i j =
    joined_of (arcs_in t.local) (before_both (reverse t.order) (point_at t.local.points i) (point_at t.local.points j))
    (point_at t.local.points i) (point_at t.local.points j)

-- whether the summary has an entry from one place to another: they differ, neither is private, and they are joined
abbrev pub is_pair_at : TakenView → ℕ → ℕ → Bool
is_pair_at t i j = not (i == j) && not (private_at t.local i) && not (private_at t.local j) && joined_at t i j

-- the entry of a pair
abbrev pub entry_at : TakenView → ℕ → ℕ → SummaryEntry
entry_at t i j = record {
  from = record { 0 = point_at t.local.points i };
  to = record { 0 = point_at t.local.points j };
  weight = entry_weight (horizon_in t.local) (forward_at t i j);
}

-- the entry from one place to another, where there is one
abbrev pub pair_entries : TakenView → ℕ → ℕ → List SummaryEntry
pair_entries t i j = if is_pair_at t i j then entry_at t i j ∷ [] else []

-- the entries from a place to those below n
abbrev pub row_below : TakenView → ℕ → ℕ → List SummaryEntry
row_below t i zero = []
row_below t i (suc n) = row_below t i n ++ pair_entries t i n

-- the entries from a place
abbrev pub row_of : TakenView → ℕ → List SummaryEntry
row_of t i = row_below t i (length t.local.points)

-- the entries from the places below n
abbrev pub rows_below : TakenView → ℕ → List SummaryEntry
rows_below t zero = []
rows_below t (suc n) = rows_below t n ++ row_of t n

-- whether a weight is missing, or above the horizon
abbrev pub is_over : ℤ → Option ℤ → Bool
is_over horizon None = true
is_over horizon (Some w) = int_lt horizon w
