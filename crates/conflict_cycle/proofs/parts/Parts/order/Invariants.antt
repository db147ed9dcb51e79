use Rattle.std.proofs.Common.{reverse}
use Rattle.conflict_cycle.proofs.PartLists.{AreLaid}
use Rattle.conflict_cycle.proofs.parts.Parts.order.Given as goal

abbrev pub invariant-loop-part : goal.invariant-loop-part
invariant-loop-part l = AreLaid l.fn.self.reduced (reverse l.fn.self.shared.state.order) l.part-index l.order.items
