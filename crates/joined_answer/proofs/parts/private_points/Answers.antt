use Rattle.joined_answer.proofs.Listings.{more_points, all_points, all_known}
use Rattle.joined_answer.proofs.parts.private_points.Goals as goal

pub loop-part-preserved : goal.loop-part-preserved
loop-part-preserved c =
    more_points c.args.reduced.now c.loop-part.part-index c.part-item.result c.loop-part.private.items c.extend_from_slice.new.self.items
    c.order.result.now c.loop-part-test.true c.part-item.is c.loop-part.invariant c.in_ok-extend_from_slice.ensures.items c.order.ensures.order
    c.summary-summary.ensures.reduced

pub returns-clause-points : goal.returns-clause-points
returns-clause-points c =
    all_points c.args.reduced.now c.loop-part.part-index c.loop-part.private.items c.loop-part-test.false c.loop-part.invariant

pub returns-clause-known : goal.returns-clause-known
returns-clause-known c =
    all_known c.args.reduced.now c.loop-part.part-index c.loop-part.private.items c.loop-part-test.false c.loop-part.invariant
