-- A network's refusal is the line's, and then the version's own.
use Rattle.stn_model.specs.Refusals.{point_refusal}
use Rattle.net_text.specs.Networks.{with_point}
use Rattle.net_text.specs.Versions.{is_full_in}
use Rattle.net_text.proofs.Refused.{refused_in}
use Rattle.net_text.proofs.entries.add_point.Goals as goal

pub returns-in-Err : goal.returns-in-Err
returns-in-Err c =
    rw c.refused.ensures (refused_in (point_refusal c.args.net.now c.args.name.now) (is_full_in c.args.version c.args.net.now) c.add_point.result c.in-Err.error
    (with_point c.args.net.now c.args.agent.0 c.args.name.now) c.add_point.new.self c.add_point.ensures.refusals c.in-Err.is)
