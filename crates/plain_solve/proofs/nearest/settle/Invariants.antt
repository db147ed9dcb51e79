use Rattle.std.proofs.Common.{◌-◌, ◌*◌}
use Rattle.stn_model.specs.Limits.{greatest_walk}
use Rattle.plain_solve.specs.LabelFacts.{IsForced}
use Rattle.plain_solve.proofs.nearest.settle.Given as goal

abbrev pub invariant-looks : goal.invariant-looks
invariant-looks l = IsForced l.graph l.labels

abbrev pub decreases-looks : goal.decreases-looks
decreases-looks l = 2 * greatest_walk - l.labels.raises
