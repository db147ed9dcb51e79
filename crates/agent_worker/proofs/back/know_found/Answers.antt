use Rattle.conflict_cycle.proofs.PartLists.{known_more, known_all}
use Rattle.agent_worker.proofs.BackParts.{parts_found}
use Rattle.agent_worker.proofs.back.know_found.Goals as goal

pub loop-part-preserved : goal.loop-part-preserved
loop-part-preserved c =
    known_more c.args.reduced.now c.loop-part.part-index c.part-item.result c.loop-part-test.true c.part-item.is c.loop-part.invariant
    c.summary-summary.ensures.reduced

pub returns : goal.returns
returns c =
    parts_found c.requires.parts.0 c.args.reduced.now c.args.shared.now c.requires.parts.1 c.requires.ordered c.requires.revisited
    c.interface-face.ensures.together (known_all c.args.reduced.now c.loop-part.part-index c.loop-part-test.false c.loop-part.invariant)
