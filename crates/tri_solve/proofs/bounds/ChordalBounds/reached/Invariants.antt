use Rattle.tri_solve.specs.Views.{bounds_of, IsWhole}
use Rattle.tri_solve.proofs.BestLabels.{IsBest}
use Rattle.tri_solve.proofs.bounds.ChordalBounds.reached.Given as goal

abbrev pub invariant-edges : goal.invariant-edges
invariant-edges l = record {
  whole : IsWhole l.self-inside;
  best : IsBest (bounds_of l.self-inside) whole.bounds l.labels l.fn.p.0 l.up l.at l.best;
}

abbrev pub decreases-edges : goal.decreases-edges
decreases-edges l = l.at
