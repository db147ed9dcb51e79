use Rattle.std.proofs.Common.{arith}
use Rattle.graph_tests.proofs.Fittings.{fit_more, fit_all}
use Rattle.graph_tests.proofs.replays.are_fitting.Goals as goal

pub loop-agent-preserved : goal.loop-agent-preserved
loop-agent-preserved c =
    let one_each = c.if-summaries-agents.false in
    let agents = c.agents.ensures in
    let end = c.agents-agent-end.ensures in
    let going = c.loop-agent-test.true in
    let kept = c.loop-agent.auto.agent-end in
    fit_more c.args.face.now c.args.summaries.now c.loop-agent.agent c.index-summaries-agent.result (omega arith) c.index-summaries-agent.is
    (c.fits.ensures.0 c.if-not-fits.false) c.loop-agent.invariant

pub returns-clause-fitting : goal.returns-clause-fitting
returns-clause-fitting c =
    let one_each = c.if-summaries-agents.false in
    let agents = c.agents.ensures in
    let end = c.agents-agent-end.ensures in
    let ended = c.loop-agent-test.false in
    let kept = c.loop-agent.auto.agent-end in
    λ yes. fit_all c.args.face.now c.args.summaries.now c.loop-agent.agent (omega arith) c.loop-agent.invariant
