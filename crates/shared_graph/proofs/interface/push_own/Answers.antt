use Rattle.shared_graph.proofs.interfaces.OwnPoints.{items_after}
use Rattle.shared_graph.proofs.interface.push_own.Goals as goal

pub returns-in_ok-push : goal.returns-in_ok-push
returns-in_ok-push c =
    items_after c.args.own.now.items c.args.owner c.in-Some.agent c.args.point c.index_mut.result.now c.push.new.self c.in-Some.is c.requires
    c.index_mut.ensures.value c.in_ok-push.ensures.items
