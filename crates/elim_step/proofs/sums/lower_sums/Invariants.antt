use Rattle.std.specs.Prelude.{◌≡◌, ℕ, ◌<◌, ◌≤◌, pos, ◌+ℤ◌, length, slice_index_or}
use Rattle.elim_step.specs.Sums.{IsSum, lesser_sum, sum_at}
use Rattle.elim_step.proofs.sums.lower_sums.Given as goal

abbrev pub invariant-loop-n : goal.invariant-loop-n
invariant-loop-n l = record {
  len : length l.sums ≡ length l.row;
  done : (m : ℕ) → m < l.n → sum_at l.sums m ≡ lesser_sum (sum_at l.initial.sums m) l.j (l.first +ℤ slice_index_or l.row m (pos 0));
  left : (m : ℕ) → l.n ≤ m → m < length l.row → sum_at l.sums m ≡ sum_at l.initial.sums m;
  sums : (m : ℕ) → m < length l.row → IsSum (sum_at l.sums m);
}
