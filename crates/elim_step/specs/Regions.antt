-- Cells after the pairs of a region were lowered through k. A region is a test of pairs.
use Rattle.std.specs.Prelude.{ℕ, Bool, ◌&&◌, not, ◌==◌, Option, if◌then◌else◌}
use Rattle.dist_rows.specs.declared.cell.Cell.{Cell}
use Rattle.elim_step.specs.Eliminates.{lesser_of, sum_through}

-- a cell after its pair is lowered through k
abbrev pub through : ℕ → (ℕ → ℕ → Option Cell) → ℕ → ℕ → Option Cell
through k f p q = lesser_of (f p q) (sum_through k (f p k) (f k q))

-- the cells after the pairs of the region are lowered through k, but for those of a place with itself
abbrev pub region_after : ℕ → (ℕ → ℕ → Bool) → (ℕ → ℕ → Option Cell) → ℕ → ℕ → Option Cell
region_after k region f p q = if region p q && not (p == q) then through k f p q else f p q
