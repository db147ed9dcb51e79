use Rattle.std.specs.Prelude.{◌≡◌, ℕ, ◌-◌, ◌<◌, ◌≤◌, None, Some}
use Rattle.private_elim.specs.Backs.{cell_in}
use Rattle.private_elim.proofs.back.Bounds.next_place.Given as goal

abbrev pub invariant-loop-place : goal.invariant-loop-place
invariant-loop-place g l = record {
  onward : l.from ≤ l.first;
  none : (m : ℕ) → l.from ≤ m → m < l.first → cell_in l.self (Some l.row) (Some m) ≡ None;
}

abbrev pub decreases-loop-place : goal.decreases-loop-place
decreases-loop-place g l = 4294967296 - l.first
