use Rattle.std.proofs.Common.{take}
use Rattle.std.specs.List.{flat_map}
use Rattle.net_text.specs.Plain.{agent_line}
use Rattle.net_text.proofs.Fronts.{front_trans, on_err_from}
use Rattle.net_text.proofs.print.add_agents.Goals as goal

pub returns-in_err-add_agent-clause-err : goal.returns-in_err-add_agent-clause-err
returns-in_err-add_agent-clause-err c =
    on_err_from c.from_residual.result
    (front_trans c.args.out.now.items (flat_map agent_line (take c.loop-number.number c.args.net.now.agents))
    c.loop-number.out.items c.add_agent.new.out.items c.loop-number.invariant c.in_err-add_agent.ensures.err)
