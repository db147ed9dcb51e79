use Rattle.std.specs.Prelude.{◌≡◌, ℕ, ◌+◌, true, false, take}
use Rattle.stn_walk.specs.Eliminations.{is_in}
use Rattle.elim_step.specs.Eliminates.{is_negative}
use Rattle.elim_step.proofs.among.first_negative_among.Given as goal

abbrev pub invariant-loop-n : goal.invariant-loop-n
invariant-loop-n g l = record {
  none : (m : ℕ) → is_in (take l.n l.list) m ≡ true → is_negative (g.R.Rows.at l.rows l.k m) (g.R.Rows.at l.rows m l.k) ≡ false;
  steps : l.steps ≡ l.initial.steps + l.n;
}
