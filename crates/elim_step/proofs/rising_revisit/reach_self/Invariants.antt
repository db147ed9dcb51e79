use Rattle.std.specs.Prelude.{◌≡◌, ℕ, ◌<◌, ◌≤◌, pos, ◌==◌, length, slice_index_or, if◌then◌else◌}
use Rattle.elim_step.proofs.rising_revisit.reach_self.Given as goal

abbrev pub invariant-loop-n : goal.invariant-loop-n
invariant-loop-n l = record {
  len : length l.row ≡ length l.block;
  done : (m : ℕ) → m < l.n → slice_index_or l.row m (pos 0) ≡ (if l.j == slice_index_or l.block m 0 then pos 0 else slice_index_or l.initial.row m (pos 0));
  left : (m : ℕ) → l.n ≤ m → m < length l.block → slice_index_or l.row m (pos 0) ≡ slice_index_or l.initial.row m (pos 0);
}
