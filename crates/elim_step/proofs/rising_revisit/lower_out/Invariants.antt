use Rattle.std.specs.Prelude.{◌≡◌, ℕ, take, Option}
use Rattle.dist_rows.specs.declared.cell.Cell.{Cell}
use Rattle.elim_step.specs.Sums.{AreSums}
use Rattle.elim_step.specs.RevisitRows.{outs_after}
use Rattle.elim_step.proofs.rising_revisit.lower_out.Given as goal

abbrev pub invariant-loop-n : goal.invariant-loop-n
invariant-loop-n g l = record {
  cells : (f : ℕ → Option Cell) → AreSums f l.block l.sums → (p q : ℕ)
      → g.R.Rows.at l.finals p q ≡ outs_after l.k f (take l.n l.block) (g.R.Rows.at l.initial.finals) p q;
  room : (p q : ℕ) → g.R.Rows.has_room l.finals p q ≡ g.R.Rows.has_room l.initial.finals p q;
  places : g.R.Rows.places l.finals ≡ g.R.Rows.places l.initial.finals;
  roomy : g.R.Rows.is_roomy l.finals ≡ g.R.Rows.is_roomy l.initial.finals;
}
