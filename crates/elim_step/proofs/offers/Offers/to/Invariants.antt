use Rattle.std.proofs.Common.{ℕ, ◌≤◌, take, Option}
use Rattle.dist_rows.specs.declared.cell.Cell.{Cell}
use Rattle.elim_step.specs.Offered.{offers_of, AreCells, AreOffers}
use Rattle.elim_step.proofs.offers.Offers.to.Given as goal

abbrev pub invariant-loop-n : goal.invariant-loop-n
invariant-loop-n l = record {
  are : (f : ℕ → Option Cell) → AreCells f l.others l.cells → AreOffers f (take l.n l.others) (offers_of l.offers);
  few : l.offers.count ≤ l.n;
}
