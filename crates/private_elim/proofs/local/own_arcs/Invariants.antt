use Rattle.std.proofs.Common.{◌≡◌}
use Rattle.private_elim.specs.Locals.{own_below}
use Rattle.private_elim.proofs.local.own_arcs.Given as goal

abbrev pub invariant-loop-n : goal.invariant-loop-n
invariant-loop-n l = l.arcs.items ≡ own_below l.net l.agent.0 l.n
