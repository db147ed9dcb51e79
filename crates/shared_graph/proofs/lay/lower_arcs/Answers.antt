use Rattle.std.proofs.Common.{◌∙◌}
use Rattle.shared_graph.proofs.graphs.Laying.{weights_more, laid_more}
use Rattle.shared_graph.proofs.lay.lower_arcs.Goals as goal

pub loop-n-preserved : goal.loop-n-preserved
loop-n-preserved g c =
    let was = c.loop-n.invariant in
    let now = c.lower_arc.ensures in
    let points = c.args.points.now in
    let arcs = c.args.arcs.now in
    let first = g.R.Rows.at c.args.rows.now in
    let at = g.R.Rows.at c.loop-n.rows in
    let after = g.R.Rows.at c.lower_arc.new.rows in
    record {
      places = now.places ∙ was.places;
      room = λ p q. now.room p q ∙ was.room p q;
      weights = weights_more points arcs c.loop-n.n first at after c.loop-n-test.true was.weights now.weights;
      laid = laid_more points arcs c.args.agent c.loop-n.n first at after was.laid now.laid;
    }
