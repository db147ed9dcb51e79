use Rattle.std.proofs.Common.{take}
use Rattle.tri_solve.specs.Labels.{AreLabels}
use Rattle.tri_solve.proofs.distances.whole.Given as goal

abbrev pub invariant-loop-label : goal.invariant-loop-label
invariant-loop-label l = record { taken : AreLabels (take l.label-index l.labels) l.whole.items }
