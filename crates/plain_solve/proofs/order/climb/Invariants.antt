use Rattle.std.proofs.Common.{◌<◌}
use Rattle.plain_solve.proofs.order.climb.Given as goal

abbrev pub invariant-loop-step : goal.invariant-loop-step
invariant-loop-step l = l.at < l.graph.points
