use Rattle.std.proofs.Common.{◌∙◌}
use Rattle.elim_step.specs.JoinedPlaces.{is_joined}
use Rattle.shared_graph.proofs.graphs.Laying.{rooms_more, joined_more}
use Rattle.shared_graph.proofs.lay.open_arcs.Goals as goal

pub loop-n-preserved : goal.loop-n-preserved
loop-n-preserved g c =
    let was = c.loop-n.invariant in
    let now = c.in_ok-open_arc.ensures in
    let points = c.args.points.now in
    let arcs = c.args.arcs.now in
    record {
      places = now.places ∙ was.places;
      size = now.size ∙ was.size;
      cells = λ p q. now.cells p q ∙ was.cells p q;
      room = rooms_more points arcs c.loop-n.n (g.R.Rows.has_room c.loop-n.rows) (g.R.Rows.has_room c.open_arc.new.rows) was.room now.kept now.room;
      joined = joined_more points arcs c.loop-n.n (is_joined c.args.joins.now) (is_joined c.loop-n.joins) (is_joined c.open_arc.new.joins) c.loop-n-test.true
          was.joined now.joined;
    }
