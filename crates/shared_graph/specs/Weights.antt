-- The cells of a state, as numbers: forward, is_joined, is_later, final_weight, final, sums_below, is_negative, first_passing, least_negative,
-- later_neighbours, least_over, rest_from, rest_to, sum_from, sum_to.
use Rattle.std.specs.Prelude.{ℕ, ℤ, pos, ◌+ℤ◌, Bool, false, ◌&&◌, not, ◌==◌, List, [], ◌∷◌, filter, Option, Some, None, int_lt, if◌then◌else◌}
use Rattle.stn_walk.specs.Eliminations.{is_in, cell_of, before_both, lesser, sum_of}
use Rattle.stn_walk.specs.Joins.{joined_of}
use Rattle.shared_graph.specs.Interfaces.{InterfaceView, points_of}
use Rattle.shared_graph.specs.States.{State, meeting_of, is_revisited}

-- the weight from i to j through the eliminated points that come before both
abbrev pub forward : InterfaceView → State → ℕ → ℕ → Option ℤ
forward face s i j = cell_of (meeting_of face s) (before_both s.order i j) i j

-- two different points with a path between them through eliminated points that come before both
abbrev pub is_joined : InterfaceView → State → ℕ → ℕ → Bool
is_joined face s i j = not (i == j) && joined_of (meeting_of face s) (before_both s.order i j) i j

-- a later neighbour p of an eliminated point k
abbrev pub is_later : InterfaceView → State → ℕ → ℕ → Bool
is_later face s k p = is_joined face s k p && not (is_in (before_both s.order k k) p)

-- the least weight of all walks, once all shared points are eliminated
abbrev pub final_weight : InterfaceView → State → ℕ → ℕ → Option ℤ
final_weight face s i j = cell_of (meeting_of face s) (0 ∷ s.order) i j

-- the final cell
abbrev pub final : InterfaceView → State → ℕ → ℕ → Option ℤ
final face s i j = if is_joined face s i j && is_revisited s i && is_revisited s j then final_weight face s i j else None

abbrev pub sums_below : Option ℤ → Option ℤ → Bool
sums_below None b = false
sums_below (Some a) None = false
sums_below (Some a) (Some b) = int_lt (a +ℤ b) (pos 0)

-- an other point outside the order whose two cells with k sum below 0
abbrev pub is_negative : InterfaceView → State → ℕ → ℕ → Bool
is_negative face s k p = not (is_in s.order p) && not (p == k) && sums_below (forward face s k p) (forward face s p k)

-- the first of a list that passes
abbrev pub first_passing : (ℕ → Bool) → List ℕ → Option ℕ
first_passing test [] = None
first_passing test (p ∷ ps) = if test p then Some p else first_passing test ps

-- the least such point: points are listed by rising number, after z
abbrev pub least_negative : InterfaceView → State → ℕ → Option ℕ
least_negative face s k = first_passing (is_negative face s k) (0 ∷ points_of face)

abbrev pub later_neighbours : InterfaceView → State → ℕ → List ℕ
later_neighbours face s k = filter (is_later face s k) (0 ∷ points_of face)

-- the least of the numbers that are there
abbrev pub least_over : (ℕ → Option ℤ) → List ℕ → Option ℤ
least_over number [] = None
least_over number (m ∷ ms) = lesser (number m) (least_over number ms)

-- the final weight from m to j, and that from j to m, which are 0 from a point to itself
abbrev pub rest_from : (ℕ → ℕ → Option ℤ) → ℕ → ℕ → Option ℤ
rest_from finals j m = if m == j then Some (pos 0) else finals m j

abbrev pub rest_to : (ℕ → ℕ → Option ℤ) → ℕ → ℕ → Option ℤ
rest_to finals j m = if m == j then Some (pos 0) else finals j m

-- from k by m to j, and from j by m to k
abbrev pub sum_from : InterfaceView → State → (ℕ → ℕ → Option ℤ) → ℕ → ℕ → ℕ → Option ℤ
sum_from face s finals k j m = sum_of (forward face s k m) (rest_from finals j m)

abbrev pub sum_to : InterfaceView → State → (ℕ → ℕ → Option ℤ) → ℕ → ℕ → ℕ → Option ℤ
sum_to face s finals k j m = sum_of (rest_to finals j m) (forward face s m k)
