use Rattle.std.proofs.Common.{◌≡◌, take}
use Rattle.conflict_cycle.proofs.parts.copy_reduced.Given as goal

abbrev pub invariant-loop-part : goal.invariant-loop-part
invariant-loop-part l = l.copies.items ≡ take l.part-index l.reduced
