use Rattle.std.proofs.Common.{sym}
use Rattle.shared_graph.proofs.graphs.Standing.{cells_light}
use Rattle.shared_graph.proofs.graphs.Negatives.{none_least, some_least}
use Rattle.shared_graph.proofs.graph.Graph.least_negative.Goals as goal

pub negative_with-requires-clause-light : goal.negative_with-requires-clause-light
negative_with-requires-clause-light g c =
    let i = c.self.inside in
    cells_light _ c.self.invariant (λ p q here. g.met.R.Rows.room_is_within i.rows p q (g.met.R.Rows.cells_have_room i.rows p q here))

pub returns-in-None : goal.returns-in-None
returns-in-None g c =
    let i = c.self.inside in
    let at = c.in-Some.ensures in
    let found = c.in-None.ensures in
    sym
    (none_least _ c.self.invariant (λ p q here. g.met.R.Rows.room_is_within i.rows p q (g.met.R.Rows.cells_have_room i.rows p q here)) _ c.self.view_is
    c.args.point.0 c.in-Some.place _ c.as_slice.ensures.value at.some.0 at.some.1 found.none)

pub returns-in-Some-negative_with : goal.returns-in-Some-negative_with
returns-in-Some-negative_with g c =
    let i = c.self.inside in
    let at = c.in-Some.ensures in
    let found = c.in-Some-negative_with.ensures in
    sym
    (some_least _ c.self.invariant (λ p q here. g.met.R.Rows.room_is_within i.rows p q (g.met.R.Rows.cells_have_room i.rows p q here)) _ c.self.view_is
    c.args.point.0 c.in-Some.place c.in-Some-negative_with.other _ _ c.as_slice.ensures.value at.some.0 at.some.1 found.some found.least c.index.ensures)
