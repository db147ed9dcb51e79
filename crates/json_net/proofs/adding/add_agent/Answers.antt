-- A network's refusal is the value's.
use Rattle.stn_model.specs.declared.ids.AgentId.{AgentId}
use Rattle.stn_model.specs.Refusals.{agent_refusal}
use Rattle.net_text.specs.Networks.{with_agent}
use Rattle.json_net.proofs.Refused.{refused_so}
use Rattle.json_net.proofs.adding.add_agent.Goals as goal

pub returns-in-Err-clause-said : goal.returns-in-Err-clause-said
returns-in-Err-clause-said c =
    rw c.refused.ensures (refused_so AgentId c.args.path (agent_refusal c.args.net.now c.args.name.now) c.add_agent.result c.in-Err.error
    (with_agent c.args.net.now c.args.name.now c.args.lean) c.add_agent.new.self c.add_agent.ensures.refusals c.in-Err.is)
