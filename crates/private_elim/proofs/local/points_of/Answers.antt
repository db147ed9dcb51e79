use Rattle.std.proofs.Common.{◌≡◌, ◌<◌, sym, subst, ◌∙◌, arith}
use Rattle.std.specs.List.{All}
use Rattle.stn_model.specs.Net.{point_count}
use Rattle.private_elim.proofs.locals.Owned.{points_below, points_at}
use Rattle.private_elim.proofs.local.points_of.Goals as goal

pub returns-clause-known : goal.returns-clause-known
returns-clause-known c =
    let e : c.loop-p.p ≡ point_count c.args.net.now = omega (arith, c.points-p-end.ensures.count) in
    subst (All (λ p. p < point_count c.args.net.now)) (sym (c.loop-p.invariant ∙ points_at c.args.net.now c.args.agent.0 c.loop-p.p e))
    (points_below c.args.net.now c.args.agent.0)
