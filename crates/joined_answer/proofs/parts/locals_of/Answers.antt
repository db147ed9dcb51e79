use Rattle.std.proofs.Common.{◌≡◌, ◌∙◌, arith}
use Rattle.agent_worker.proofs.LocalLists.{one_local, all_locals}
use Rattle.joined_answer.proofs.parts.locals_of.Goals as goal

pub loop-agent-preserved : goal.loop-agent-preserved
loop-agent-preserved c =
    one_local c.args.net.now c.loop-agent.agent c.loop-agent.locals.items c.push.new.self.items c.in_ok-of.field-0 c.loop-agent.invariant
    c.in_ok-push.ensures.items c.in_ok-of.ensures

pub returns : goal.returns
returns c =
    let end : c.loop-agent.agent ≡ c.agents-agent-end.result = omega (arith, c.loop-agent-test.false, c.loop-agent.auto.agent-end) in
    all_locals c.args.net.now c.loop-agent.agent c.loop-agent.locals.items c.loop-agent.invariant (end ∙ c.agents-agent-end.ensures.count)
    c.agents-agent-end.ensures.valid
