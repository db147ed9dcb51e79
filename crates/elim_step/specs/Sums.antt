-- Sums of plain weights. A plain weight stands for an optional cell, and a sum for the least sum of two of them so far, if there is one.
--   IsPlain, AreWeights             a weight of magnitude at most 2 ^ 99, or the one that stands for no cell; those of cells to the places of a list
--   IsSum, lesser_sum, cell_for     a sum, the lesser of it and a further weight, and its cell
use Rattle.std.specs.Prelude.{◌≡◌, ℕ, ◌+◌, ◌<◌, ◌^◌, ℤ, pos, ◌+ℤ◌, ◌≤ℤ◌, int_lt, List, Option, Some, None, length, slice_index_or, if◌then◌else◌}
use Rattle.dist_rows.specs.declared.cell.Cell.{Cell}
use Rattle.dist_rows.specs.declared.cell.Via.TheVariants.{Through}
use Rattle.dist_rows.specs.Cells.{far, weight_in}
use Rattle.elim_step.specs.declared.sums.Sum.{Sum}

abbrev pub IsPlain : ℤ → Type 0
IsPlain w = (pos 0 ≤ℤ (w +ℤ pos (2 ^ 99))) × (w ≤ℤ far)

-- the weights in a buffer are those of the cells to the places of a list
abbrev pub AreWeights : (ℕ → Option Cell) → List ℕ → List ℤ → Type 0
AreWeights f places weights = (m : ℕ) → m < length places → slice_index_or weights m (pos 0) ≡ weight_in (f (slice_index_or places m 0))

-- above all sums of two cells, and below all sums with a weight that stands for none
abbrev pub least_limit : ℤ
least_limit = pos (2 ^ 100 + 1)

-- no sum
abbrev pub no_sum : Sum
no_sum = record { weight = least_limit; via = 0 }

abbrev pub IsSum : Sum → Type 0
IsSum s = (pos 0 ≤ℤ (s.weight +ℤ pos (2 ^ 100))) × (s.weight ≤ℤ least_limit)

-- a sum after it is lowered to a weight through k. It stays where the weights are equal
abbrev pub lesser_sum : Sum → ℕ → ℤ → Sum
lesser_sum s k w = if int_lt w s.weight then record { weight = w; via = k } else s

-- the cell of a sum, where there is one
abbrev pub cell_for : Sum → Option Cell
cell_for s = if int_lt s.weight least_limit then Some (record { weight = s.weight; via = Through s.via }) else None

-- a sum of a buffer
abbrev pub sum_at : List Sum → ℕ → Sum
sum_at sums m = slice_index_or sums m (record { weight = pos 0; via = 0 })

-- the sums in a buffer are those to the places of a list
abbrev pub AreSums : (ℕ → Option Cell) → List ℕ → List Sum → Type 0
AreSums f places sums = (m : ℕ) → m < length places → cell_for (sum_at sums m) ≡ f (slice_index_or places m 0)
