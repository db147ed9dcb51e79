-- One revisit row by row: the final cells after some of its parts. A block is some places, as many as are read at a time.
use Rattle.std.specs.Prelude.{ℕ, List, ◌&&◌, ◌==◌, Option, None, if◌then◌else◌}
use Rattle.dist_rows.specs.declared.cell.Cell.{Cell}
use Rattle.elim_step.specs.Eliminates.{lesser_of}
use Rattle.stn_walk.specs.Eliminations.{is_in}
use Rattle.elim_step.specs.Revisits.{out_sum, in_sum, least_over}

-- after the cells from k to these places are lowered to sums
abbrev pub outs_after : ℕ → (ℕ → Option Cell) → List ℕ → (ℕ → ℕ → Option Cell) → ℕ → ℕ → Option Cell
outs_after k sum done f p q = if (p == k) && is_in done q then lesser_of (f p q) (sum q) else f p q

-- after the cells from these places to k are lowered through a block
abbrev pub backs_after : (ℕ → ℕ → Option Cell) → ℕ → List ℕ → List ℕ → (ℕ → ℕ → Option Cell) → ℕ → ℕ → Option Cell
backs_after forward k block done f p q = if (q == k) && is_in done p then lesser_of (f p q) (least_over (in_sum forward f k p) None block) else f p q

-- after the rows of these places are read at a block
abbrev pub block_after : (ℕ → ℕ → Option Cell) → ℕ → List ℕ → List ℕ → (ℕ → ℕ → Option Cell) → ℕ → ℕ → Option Cell
block_after forward k block done f p q =
    if (p == k) && is_in block q then least_over (out_sum forward f k q) (f p q) done
    else (if (q == k) && is_in done p then lesser_of (f p q) (least_over (in_sum forward f k p) None block)
    else f p q)

-- after the rows of all later places are read at these places
abbrev pub rows_after : (ℕ → ℕ → Option Cell) → ℕ → List ℕ → List ℕ → (ℕ → ℕ → Option Cell) → ℕ → ℕ → Option Cell
rows_after forward k later done f p q =
    if (p == k) && is_in done q then least_over (out_sum forward f k q) (f p q) later
    else (if (q == k) && is_in later p then least_over (in_sum forward f k p) (f p q) done
    else f p q)
