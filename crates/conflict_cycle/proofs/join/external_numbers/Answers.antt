use Rattle.std.proofs.Common.{arith}
use Rattle.conflict_cycle.proofs.ExternalNumbers.{external_more, external_all}
use Rattle.conflict_cycle.proofs.join.external_numbers.Goals as goal

pub loop-n-preserved : goal.loop-n-preserved
loop-n-preserved c =
    external_more c.args.net.now c.loop-n.n c.loop-n.numbers.items c.push_external.new.numbers.items (omega (arith, c.arcs-n-end.ensures.count))
    c.in_ok-push_external.ensures c.loop-n.invariant

pub returns-clause-numbers : goal.returns-clause-numbers
returns-clause-numbers c = external_all c.args.net.now c.loop-n.n c.loop-n.numbers.items (omega (arith, c.arcs-n-end.ensures.count)) c.loop-n.invariant
