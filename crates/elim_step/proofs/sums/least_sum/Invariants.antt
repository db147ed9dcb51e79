use Rattle.std.specs.Prelude.{◌≡◌, ℕ, ◌<◌, take, length, slice_index_or, Option, None, IfSome}
use Rattle.dist_rows.specs.declared.cell.Cell.{Cell}
use Rattle.dist_rows.specs.Cells.{IsLight}
use Rattle.elim_step.specs.Eliminates.{sum_through}
use Rattle.elim_step.specs.Revisits.{least_over}
use Rattle.elim_step.specs.Sums.{AreWeights, IsSum, cell_for}
use Rattle.elim_step.proofs.sums.least_sum.Given as goal

abbrev pub invariant-loop-n : goal.invariant-loop-n
invariant-loop-n l = record {
  value : (f g : ℕ → Option Cell) → AreWeights f l.block l.row → AreWeights g l.block l.back
      → ((m : ℕ) → m < length l.block → IfSome (f (slice_index_or l.block m 0)) (λ c. IsLight 99 c.weight))
      → ((m : ℕ) → m < length l.block → IfSome (g (slice_index_or l.block m 0)) (λ c. IsLight 99 c.weight))
      → cell_for l.least ≡ least_over (λ m. sum_through m (f m) (g m)) None (take l.n l.block);
  sum : IsSum l.least;
}
