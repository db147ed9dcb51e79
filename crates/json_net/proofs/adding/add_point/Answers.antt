-- A network's refusal is the value's.
use Rattle.stn_model.specs.Refusals.{point_refusal}
use Rattle.net_text.specs.Networks.{with_point}
use Rattle.json_net.proofs.Refused.{refused_so}
use Rattle.json_net.proofs.adding.add_point.Goals as goal

pub returns-in-Err-clause-said : goal.returns-in-Err-clause-said
returns-in-Err-clause-said c =
    rw c.refused.ensures (refused_so (Unit {0}) c.args.path (point_refusal c.args.net.now c.args.name.now) c.add_point.result c.in-Err.error
    (with_point c.args.net.now c.args.agent.0 c.args.name.now) c.add_point.new.self c.add_point.ensures.refusals c.in-Err.is)
