use Rattle.plain_solve.proofs.LeastLemmas.{over_excludes}
use Rattle.plain_solve.proofs.sources.settled.Goals as goal

pub unreachable-requires : goal.unreachable-requires
unreachable-requires c =
    over_excludes c.args.net.now c.args.source.0 c.args.graph.now c.requires.graph c.requires.turned c.settle.new.labels c.settle.ensures.forced
    c.in_default.field-0 (rw c.in_default.is at c.in_ok-settle.ensures.answer) c.requires.consistent
