use Rattle.std.proofs.Common.{arith, ap, ◌∙◌, length, refl}
use Rattle.shared_graph.specs.Interfaces.{InterfaceView}
use Rattle.claim_pass.proofs.Offers.{pass_pushed}
use Rattle.claim_pass.proofs.desk.Desk.start.Goals as goal

pub loop-agent-preserved : goal.loop-agent-preserved
loop-agent-preserved g c =
    let h = c.loop-agent.invariant in
    let parts = c.split_off-share.ensures.parts_left in
    let amount = c.split_off-share.ensures.amount_left in
    let lt = c.loop-agent-test.true in
    let more = c.in_ok-push.ensures.len in (
      omega arith,
      omega arith,
      omega arith,
      rw c.in_ok-push.ensures.items (pass_pushed c.loop-agent.passes.items _ c.loop-agent.agent (λ p. p.agent) (λ p. p.count)
          (let len = c.loop-agent.passes.ok.0 in omega arith) refl refl h.3),
    )

pub returns-clause-each : goal.returns-clause-each
returns-clause-each g c =
    let h = c.loop-agent.invariant in
    let many = c.agents-agents.ensures ∙ ap (λ (f : InterfaceView). length f.leans) c.interface.ensures.face ∙ c.requires.agents in
    let end = c.loop-agent-test.false in
    λ i d lt. h.3 i d (omega arith)
