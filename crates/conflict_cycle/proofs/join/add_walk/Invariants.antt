use Rattle.conflict_cycle.proofs.LegWalks.{IsUnderWay}
use Rattle.conflict_cycle.proofs.join.add_walk.Given as goal

abbrev pub ghost-add_leg : goal.ghost-add_leg
ghost-add_leg g a = g.whole

abbrev pub invariant-loop-leg : goal.invariant-loop-leg
invariant-loop-leg g l = IsUnderWay g.whole l.fn.from.0 l.fn.to.0 l.fn.walk.items l.walk.items l.leg-items l.leg-index
