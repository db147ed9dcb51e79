use Rattle.std.proofs.Common.{◌-◌, ◌*◌}
use Rattle.stn_model.specs.Limits.{greatest_walk}
use Rattle.plain_solve.specs.LabelFacts.{IsForced}
use Rattle.plain_solve.specs.QueueFacts.{IsLayout, IsQueue}
use Rattle.plain_solve.proofs.relax.relax.Given as goal

abbrev pub invariant-rounds : goal.invariant-rounds
invariant-rounds l = record { forced : IsForced l.graph l.labels; queue : IsQueue l.graph l.queue }

abbrev pub decreases-rounds : goal.decreases-rounds
decreases-rounds l = 2 * greatest_walk - l.labels.raises
