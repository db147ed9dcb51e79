use Rattle.std.proofs.Common.{◌≡◌, length, ap, sym, ◌∙◌, subst, arith}
use Rattle.shared_graph.specs.Interfaces.{InterfaceView, IsFitting}
use Rattle.agent_worker.proofs.Telling.{told_more, all_fit, all_agree}
use Rattle.agent_worker.proofs.joiner.told.Goals as goal

pub loop-agent-preserved : goal.loop-agent-preserved
loop-agent-preserved c =
    let v = c.args.shared.now in
    let n = c.loop-agent.agent in
    told_more v n c.loop-agent.summaries.items c.push.new.self.items c.in_ok-copy.field-0 c.loop-agent.invariant c.in_ok-push.ensures.items
    (c.in_ok-copy.ensures ∙ c.in-Some.ensures.some.1) (subst (IsFitting v.face n) (sym c.in_ok-copy.ensures) c.in-Some.ensures.fits)

pub returns-clause-fitting : goal.returns-clause-fitting
returns-clause-fitting c = all_fit c.args.shared.now c.loop-agent.agent c.loop-agent.summaries.items c.loop-agent.invariant

pub returns-clause-agree : goal.returns-clause-agree
returns-clause-agree c =
    let end : c.loop-agent.agent ≡ c.agents-agent-end.result = omega (arith, c.loop-agent-test.false, c.loop-agent.auto.agent-end) in
    all_agree c.args.shared.now c.loop-agent.agent c.loop-agent.summaries.items c.loop-agent.invariant c.journal-journal.ensures.replays
    (end ∙ c.agents-agent-end.ensures ∙ ap (λ (f : InterfaceView). length f.leans) c.interface.ensures.face)
