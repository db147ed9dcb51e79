use Rattle.std.specs.Prelude.{◌≡◌, ℕ, ◌<◌, length}
use Rattle.elim_step.specs.Sums.{no_sum, sum_at}
use Rattle.elim_step.proofs.sums.clear.Given as goal

abbrev pub invariant-loop-n : goal.invariant-loop-n
invariant-loop-n l = record {
  len : length l.sums ≡ length l.initial.sums;
  none : (m : ℕ) → m < l.n → sum_at l.sums m ≡ no_sum;
}
