use Rattle.std.proofs.Common.{ap, arith}
use Rattle.stn_model.specs.Net.{Net}
use Rattle.net_gen.proofs.Free.{agent_is_free}
use Rattle.net_gen.proofs.Places.{agents_more}
use Rattle.net_gen.proofs.generator.add_agents.Goals as goal

pub new_agent-requires : goal.new_agent-requires
new_agent-requires c =
    rw (c.deref.ensures.value, c.in_ok-write_agent_name.ensures)
    (agent_is_free c.loop-agent.net c.loop-agent.agent (ap (λ (m : Net). m.agents) c.loop-agent.invariant) (omega arith))

pub loop-agent-preserved : goal.loop-agent-preserved
loop-agent-preserved c =
    let h = rw (c.deref.ensures.value, c.in_ok-write_agent_name.ensures, c.lean_of.ensures) at c.in_ok-new_agent.ensures in
    agents_more c.args.net.now c.loop-agent.net c.new_agent.new.net c.loop-agent.agent c.loop-agent.invariant h
