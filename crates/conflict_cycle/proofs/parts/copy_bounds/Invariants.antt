use Rattle.std.proofs.Common.{◌≡◌, take}
use Rattle.conflict_cycle.proofs.parts.copy_bounds.Given as goal

abbrev pub invariant-loop-swept : goal.invariant-loop-swept
invariant-loop-swept l = l.copies.items ≡ take l.swept-index l.bounds
