-- Eliminating points one by one: what the cells between the points that are left come to, as numbers and not yet as code (the shortest paths
-- of Floyd 1962, over some points only): with_point, lesser, sum_of, IsNotBelow, is_in, bound_of, cell_of, before_both, CellsAreLeast, StaysNonNegative.
use Rattle.std.specs.Prelude.{◌≡◌, ◌≢◌, ℕ, ℤ, pos, ◌+ℤ◌, ◌≤ℤ◌, List, [], ◌∷◌, Bool, false, ◌||◌, ◌&&◌, ◌==◌, Option, Some, None, int_lt, if◌then◌else◌}
use Rattle.stn_model.specs.declared.ids.Constraint.{Constraint}
use Rattle.stn_model.specs.ArcWalks.{IsInnerLeast, NoNegative}

-- the set with one point more
abbrev pub with_point : ℕ → (ℕ → Bool) → ℕ → Bool
with_point k inner p = inner p || (p == k)

abbrev pub lesser : Option ℤ → Option ℤ → Option ℤ
lesser None y = y
lesser (Some a) None = Some a
lesser (Some a) (Some b) = if int_lt b a then Some b else Some a

abbrev pub sum_of : Option ℤ → Option ℤ → Option ℤ
sum_of None b = None
sum_of (Some a) None = None
sum_of (Some a) (Some b) = Some (a +ℤ b)

-- two cells, where both are there, do not sum below 0
abbrev pub IsNotBelow : Option ℤ → Option ℤ → Type 0
IsNotBelow None b = Unit {0}
IsNotBelow (Some a) None = Unit {0}
IsNotBelow (Some a) (Some b) = pos 0 ≤ℤ (a +ℤ b)

-- whether a point is in a list
abbrev pub is_in : List ℕ → ℕ → Bool
is_in [] p = false
is_in (x ∷ xs) p = is_in xs p || (p == x)

-- the least bound of the arcs from i to j
abbrev pub bound_of : List Constraint → ℕ → ℕ → Option ℤ
bound_of [] i j = None
bound_of (a ∷ arcs) i j = if (a.from.0 == i) && (a.to.0 == j) then lesser (bound_of arcs i j) (Some a.bound) else bound_of arcs i j

-- the cell from i to j after these points are eliminated, the last one first
abbrev pub cell_of : List Constraint → List ℕ → ℕ → ℕ → Option ℤ
cell_of arcs [] i j = bound_of arcs i j
cell_of arcs (k ∷ es) i j = lesser (cell_of arcs es i j) (sum_of (cell_of arcs es i k) (cell_of arcs es k j))

-- the eliminated points that come before both
abbrev pub before_both : List ℕ → ℕ → ℕ → List ℕ
before_both [] i j = []
before_both (k ∷ es) i j = if is_in (k ∷ es) i || is_in (k ∷ es) j then before_both es i j else k ∷ es

-- the cells of plain elimination are inner least weights
abbrev pub CellsAreLeast : Type 0
CellsAreLeast = (arcs : List Constraint) (es : List ℕ) → NoNegative (is_in es) arcs → (i j : ℕ) → IsInnerLeast (is_in es) arcs i j (cell_of arcs es i j)

-- no closed walk is negative after a point is eliminated that no other point outside has two cells with that sum below 0
abbrev pub StaysNonNegative : Type 0
StaysNonNegative = (arcs : List Constraint) (es : List ℕ) (k : ℕ) → NoNegative (is_in es) arcs
    → ((p : ℕ) → is_in es p ≡ false → p ≢ k → IsNotBelow (cell_of arcs es p k) (cell_of arcs es k p)) → NoNegative (is_in (k ∷ es)) arcs
