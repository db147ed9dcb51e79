-- What one elimination means. A map of cells is a function of pairs, and `remain` has a truth value for each place.
--   remains, is_neighbour, is_below   which places remain, are neighbours of k, sum below 0 with k
--   sum_through, lesser_of      the sum of two cells through k; the lesser of two cells
--   eliminated                  the cells after k is eliminated
--   count_below                 how many places pass a test
--   StepGives                   the answer of an elimination with the cells before and after
use Rattle.std.specs.Prelude.{◌≡◌, ℕ, ◌+◌, ◌<◌, pos, ◌+ℤ◌, int_lt, List, Bool, true, false, ◌&&◌, not, ◌==◌, Option, Some, None, slice_index_or}
use Rattle.std.specs.Prelude.{if◌then◌else◌}
use Rattle.std.proofs.Common.{zero, suc}
use Rattle.dist_rows.specs.declared.cell.Cell.{Cell}
use Rattle.dist_rows.specs.declared.cell.Via.TheVariants.{Through}
use Rattle.dist_rows.specs.Cells.{lesser, are_neighbours}
use Rattle.elim_step.specs.declared.step.Found.{Found}
use Rattle.elim_step.specs.declared.step.Found.TheVariants.{Clear, Negative}

-- whether a place remains
abbrev pub remains : List Bool → ℕ → Bool
remains remain p = slice_index_or remain p false

-- whether a place is a remaining neighbour of k: it remains and has a cell with k in either direction
abbrev pub is_neighbour : List Bool → (ℕ → ℕ → Option Cell) → ℕ → ℕ → Bool
is_neighbour remain f k p = remains remain p && are_neighbours f k p

-- the sum of two cells through k, where both are there
abbrev pub sum_through : ℕ → Option Cell → Option Cell → Option Cell
sum_through k (Some a) (Some b) = Some (record { weight = a.weight +ℤ b.weight; via = Through k })
sum_through k (Some a) None = None
sum_through k None b = None

-- the lesser of a cell and a sum that may be missing. The cell stays where the weights are equal
abbrev pub lesser_of : Option Cell → Option Cell → Option Cell
lesser_of old None = old
lesser_of old (Some cell) = lesser old cell

-- whether two cells are there and sum below 0
abbrev pub is_negative : Option Cell → Option Cell → Bool
is_negative (Some a) (Some b) = int_lt (a.weight +ℤ b.weight) (pos 0)
is_negative (Some a) None = false
is_negative None b = false

-- whether a place remains and its two cells with k sum below 0
abbrev pub is_below : List Bool → (ℕ → ℕ → Option Cell) → ℕ → ℕ → Bool
is_below remain f k p = remains remain p && is_negative (f k p) (f p k)

-- the pairs that an elimination of k may lower
abbrev pub is_pair : List Bool → ℕ → ℕ → ℕ → Bool
is_pair remain k p q = not (p == q) && not (p == k) && not (q == k) && remains remain p && remains remain q

-- the cells after k is eliminated: each pair of remaining places has the lesser of its cell and of the sum through k, where that is there
abbrev pub eliminated : List Bool → ℕ → (ℕ → ℕ → Option Cell) → ℕ → ℕ → Option Cell
eliminated remain k f p q = if is_pair remain k p q then lesser_of (f p q) (sum_through k (f p k) (f k q)) else f p q

-- how many numbers below n pass
abbrev pub count_below : (ℕ → Bool) → ℕ → ℕ
count_below test zero = 0
count_below test (suc n) = (if test n then 1 else 0) + count_below test n

-- the answer, with the cells f before and g after: Clear where no place sums below 0, and else the least such place
abbrev pub StepGives : List Bool → ℕ → (ℕ → ℕ → Option Cell) → (ℕ → ℕ → Option Cell) → Found → Type 0
StepGives remain k f g Clear = ((m : ℕ) → is_below remain f k m ≡ false) × ((p q : ℕ) → g p q ≡ eliminated remain k f p q)
StepGives remain k f g (Negative i) = (is_below remain f k i ≡ true) × ((m : ℕ) → m < i → is_below remain f k m ≡ false) × ((p q : ℕ) → g p q ≡ f p q)

-- where the answer is Negative, room is as before
abbrev pub StaysAtNegative : (ℕ → ℕ → Bool) → (ℕ → ℕ → Bool) → Found → Type 0
StaysAtNegative before after Clear = Unit {0}
StaysAtNegative before after (Negative i) = (p q : ℕ) → after p q ≡ before p q
