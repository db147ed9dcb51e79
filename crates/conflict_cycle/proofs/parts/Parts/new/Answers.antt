use Rattle.std.proofs.Common.{subst}
use Rattle.conflict_cycle.specs.PartOrders.{AreReduced}
use Rattle.conflict_cycle.proofs.parts.Parts.new.Goals as goal

pub invariant_of-result : goal.invariant_of-result
invariant_of-result c = record {
  reduced = subst AreReduced c.as_slice.ensures.value c.know_reduced.ensures;
  ordered = c.requires.ordered;
  revisited = c.requires.revisited;
  untimed = c.requires.untimed;
}
