-- The numbers so far.
use Rattle.std.proofs.Common.{◌≡◌, take}
use Rattle.private_elim.specs.Leaves.{numbers_of}
use Rattle.private_elim.proofs.unfold.given_numbers.Given as goal

abbrev pub invariant-loop-leaf : goal.invariant-loop-leaf
invariant-loop-leaf l = l.numbers.items ≡ numbers_of (take l.leaf-index l.leaves)
