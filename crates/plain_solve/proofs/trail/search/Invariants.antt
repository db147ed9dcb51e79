use Rattle.std.proofs.Common.{◌≡◌, ◌<◌, length}
use Rattle.plain_solve.proofs.trail.search.Given as goal

abbrev pub invariant-loop-step : goal.invariant-loop-step
invariant-loop-step l = record { within : l.at < l.graph.points; marks : length l.colours.items ≡ l.graph.points }

abbrev pub invariant-loop-start : goal.invariant-loop-start
invariant-loop-start l = length l.colours.items ≡ l.graph.points
