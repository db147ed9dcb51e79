use Rattle.std.specs.Prelude.{◌≡◌, ℕ, ◌+◌, ◌*◌, ◌<◌, take, length, slice_index_or, None}
use Rattle.elim_step.specs.Revisits.{out_sum, least_over}
use Rattle.elim_step.specs.RevisitRows.{backs_after}
use Rattle.elim_step.specs.Sums.{IsSum, cell_for, sum_at}
use Rattle.elim_step.proofs.rising_revisit.revisit_block.Given as goal

abbrev pub invariant-loop-j : goal.invariant-loop-j
invariant-loop-j g l = record {
  cells : (p q : ℕ) → g.R.Rows.at l.finals p q
      ≡ backs_after (g.R.Rows.at l.forward) l.k l.block (take l.j-index l.later) (g.R.Rows.at l.initial.finals) p q;
  value : (m : ℕ) → m < length l.block → cell_for (sum_at l.sums m)
      ≡ least_over (out_sum (g.R.Rows.at l.forward) (g.R.Rows.at l.initial.finals) l.k (slice_index_or l.block m 0)) None (take l.j-index l.later);
  sums : (m : ℕ) → m < length l.block → IsSum (sum_at l.sums m);
  sums_len : length l.sums ≡ length l.block;
  row_len : length l.row ≡ length l.block;
  room : (p q : ℕ) → g.R.Rows.has_room l.finals p q ≡ g.R.Rows.has_room l.initial.finals p q;
  places : g.R.Rows.places l.finals ≡ g.R.Rows.places l.initial.finals;
  roomy : g.R.Rows.is_roomy l.finals ≡ g.R.Rows.is_roomy l.initial.finals;
  steps : l.steps ≡ l.initial.steps + 2 * length l.block * l.j-index;
}
