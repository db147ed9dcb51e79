use Rattle.conflict_cycle.proofs.ReducedParts.{reduced_more}
use Rattle.conflict_cycle.proofs.tests.all_reduced.Goals as goal

pub loop-agent-preserved : goal.loop-agent-preserved
loop-agent-preserved c =
    reduced_more c.args.net.now c.loop-agent.agent c.loop-agent.all.items c.push.new.self.items c.in_ok-reduced_of.field-0 c.in_ok-push.ensures.items
    c.in_ok-reduced_of.ensures c.loop-agent.invariant
