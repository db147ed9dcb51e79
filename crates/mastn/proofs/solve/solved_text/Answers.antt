use Rattle.mastn.proofs.JoinedPoints.{listed_known}
use Rattle.mastn.proofs.solve.solved_text.Goals as goal

pub order_lines-requires : goal.order_lines-requires
order_lines-requires c =
    let joined = c.args.joined.now in
    record {
      points = listed_known c.args.net.now joined.network c.network.result.now joined.section joined.order c.order.result.now
          c.network.ensures.joined.network c.requires.network c.requires.legal c.network.ensures.network c.network.ensures.joined.order
          c.order.ensures;
    }
