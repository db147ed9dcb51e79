-- A line that adds a point names its agent and the point.
use Rattle.std.proofs.Common.{arith, subst}
use Rattle.std.proofs.lemmas.Result.{err_from_is_err_and}
use Rattle.net_text.specs.Adding.{Adds}
use Rattle.net_text.proofs.Meanings.{point_miscounted, point_unknown, point_known}
use Rattle.net_text.proofs.grammar.point_line.Goals as goal

pub returns-in_default : goal.returns-in_default
returns-in_default c = point_miscounted c.args.version c.args.net.now c.args.fields.now (λ e. omega arith)

pub returns-in_err-agent : goal.returns-in_err-agent
returns-in_err-agent c =
    let p = err_from_is_err_and c.from_residual.result c.from_residual.ensures.1 in
    rw (p.1, p.2, c.in_err-agent.ensures.found.0)
    (point_unknown c.args.version c.args.net.now c.args.fields.now c.in-len2.len_at_least c.in-len2.len_below c.in_err-agent.ensures.found.1)

pub returns : goal.returns
returns c =
    subst (λ s. Adds s c.add_point.result c.add_point.new.net)
    (point_known c.args.version c.args.net.now c.args.fields.now c.in_ok-agent.agent.0
    c.in-len2.len_at_least c.in-len2.len_below c.in_ok-agent.ensures.found)
    c.add_point.ensures
