use Rattle.std.proofs.Common.{ℕ, ◌<◌}
use Rattle.plain_solve.specs.LabelFacts.{Holds}
use Rattle.plain_solve.proofs.labels.first_broken.Given as goal

abbrev pub invariant-loop-n : goal.invariant-loop-n
invariant-loop-n l = (k : ℕ) → k < l.n → Holds l.graph l.labels k
