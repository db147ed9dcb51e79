-- Tests for negative cycles in normal form: is_walk, are_different, is_normal, is_cycle.
use Rattle.std.specs.Prelude.{ℕ, pos, Bool, true, false, not, ◌&&◌, List, [], ◌∷◌, length, nat_eq, nat_lt, nat_le, int_lt, slice_index}
use Rattle.std.specs.List.{list_all, list_any}
use Rattle.stn_model.specs.declared.ids.Constraint.{Constraint}
use Rattle.stn_model.specs.Arcs.{from_at, to_at}
use Rattle.stn_model.specs.Walks.{weight, heads}

-- the numbers are those of a walk from i to j
abbrev pub is_walk : List Constraint → ℕ → ℕ → List ℕ → Bool
is_walk arcs i j [] = nat_eq i j
is_walk arcs i j (n ∷ ns) = nat_lt n (length arcs) && (nat_eq (from_at arcs n) i && is_walk arcs (to_at arcs n) j ns)

-- no number stands twice
abbrev pub are_different : List ℕ → Bool
are_different [] = true
are_different (x ∷ xs) = not (list_any (nat_eq x) xs) && are_different xs

-- the first number is the least
abbrev pub is_normal : List ℕ → Bool
is_normal ns = list_all (nat_le (slice_index ns 0)) ns

-- the numbers are those of a closed walk that passes no point twice and sums below 0, the least number first
abbrev pub is_cycle : List Constraint → List ℕ → Bool
is_cycle arcs [] = false
is_cycle arcs (n ∷ ns) =
    is_walk arcs (from_at arcs n) (from_at arcs n) (n ∷ ns)
    && (are_different (heads arcs (n ∷ ns)) && (int_lt (weight arcs (n ∷ ns)) (pos 0) && is_normal (n ∷ ns)))
