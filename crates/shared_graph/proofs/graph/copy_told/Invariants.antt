use Rattle.std.proofs.Common.{◌≡◌, take}
use Rattle.shared_graph.proofs.graph.copy_told.Given as goal

abbrev pub invariant-loop-told : goal.invariant-loop-told
invariant-loop-told l = l.copies.items ≡ take l.told-index l.published
