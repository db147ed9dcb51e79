use Rattle.std.specs.Prelude.{◌≡◌, ℕ, true, None, take}
use Rattle.stn_walk.specs.Eliminations.{is_in}
use Rattle.elim_step.proofs.tests.is_apart.Given as goal

abbrev pub invariant-loop-j : goal.invariant-loop-j
invariant-loop-j g l = (j : ℕ) → is_in (take l.j-index l.later) j ≡ true → (g.R.Rows.at l.rows l.k j ≡ None) × (g.R.Rows.at l.rows j l.k ≡ None)
