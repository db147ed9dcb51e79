use Rattle.std.proofs.Common.{◌≡◌, ◌∷◌}
use Rattle.private_elim.specs.Locals.{owned_below}
use Rattle.private_elim.proofs.local.points_of.Given as goal

abbrev pub invariant-loop-p : goal.invariant-loop-p
invariant-loop-p l = l.points.items ≡ 0 ∷ owned_below l.net l.agent.0 l.p
