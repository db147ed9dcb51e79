use Rattle.std.proofs.Common.{◌≡◌, map, ap, ◌∙◌, arith, subst}
use Rattle.stn_model.specs.Net.{point_count}
use Rattle.joined_answer.specs.LeastBounds.{AreBoundsTo}
use Rattle.joined_answer.proofs.BoundLists.{bounds_whole}
use Rattle.joined_answer.proofs.joined.Joined.edges.Goals as goal

pub returns : goal.returns
returns c =
    let net = c.args.self.now.network in
    let order = map (λ p. p.0) c.args.self.now.order in
    let count = c.points-i-end.ensures.count ∙ ap point_count c.network.ensures.network in
    let low = c.loop-i-test.false in
    let high = c.loop-i.auto.i-end in
    let all : c.loop-i.i ≡ point_count net = omega arith in
    bounds_whole net order c.loop-i.edges.items c.network.ensures.joined.network
    (subst (λ n. AreBoundsTo net order n 0 c.loop-i.edges.items) all c.loop-i.invariant)
