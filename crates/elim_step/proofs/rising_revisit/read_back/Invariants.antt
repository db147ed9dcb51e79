use Rattle.std.specs.Prelude.{◌≡◌, ℕ, ◌<◌, pos, length, slice_index_or}
use Rattle.dist_rows.specs.Cells.{weight_in}
use Rattle.elim_step.specs.Sums.{IsPlain}
use Rattle.elim_step.proofs.rising_revisit.read_back.Given as goal

abbrev pub invariant-loop-n : goal.invariant-loop-n
invariant-loop-n g l = record {
  len : length l.back ≡ length l.block;
  weights : (m : ℕ) → m < l.n → slice_index_or l.back m (pos 0) ≡ weight_in (g.R.Rows.at l.forward (slice_index_or l.block m 0) l.k);
  plain : (m : ℕ) → m < l.n → IsPlain (slice_index_or l.back m (pos 0));
}
