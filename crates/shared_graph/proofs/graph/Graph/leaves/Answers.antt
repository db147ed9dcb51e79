use Rattle.shared_graph.proofs.graphs.Legs.{leg_sums, leg_there, leg_size, unfolded_legs}
use Rattle.shared_graph.proofs.graph.Graph.leaves.Goals as goal

pub unfold-requires : goal.unfold-requires
unfold-requires g c κs known =
    let q = c.requires.1 in
    let places = leg_size _ c.self.invariant _ c.self.view_is g.places.points q.0 in
    let there = leg_there _ c.self.invariant _ c.self.view_is c.args.from c.args.to q.1.1.0.0 q.1.1.0.1 q.1.1.1.0 q.1.1.1.1 in
    let rows = c.self.inside.rows in
    let room = g.met.R.Rows.room_is_within rows c.args.from c.args.to (g.met.R.Rows.cells_have_room rows c.args.from c.args.to there) in
    (known, (places, ((room.0, room.1), (there, leg_sums _ c.self.invariant _ c.self.view_is g.places.points g.places.es q.0 q.1.0))))

pub returns-clause-within : goal.returns-clause-within
returns-clause-within g c =
    let q = c.requires.1 in
    let told = c.in_ok-leaves.ensures in
    (unfolded_legs _ c.self.invariant
    (λ p q here. g.met.R.Rows.room_is_within c.self.inside.rows p q (g.met.R.Rows.cells_have_room c.self.inside.rows p q here)) _ c.self.view_is
    g.places.points g.places.es q.0 q.1.0 c.args.from c.args.to q.1.1.0.0 q.1.1.0.1 q.1.1.1.0
    c.in_ok-leaves.leaves.items told.lead told.leaf told.weight).within

pub returns-clause-lead : goal.returns-clause-lead
returns-clause-lead g c =
    let q = c.requires.1 in
    let told = c.in_ok-leaves.ensures in
    (unfolded_legs _ c.self.invariant
    (λ p q here. g.met.R.Rows.room_is_within c.self.inside.rows p q (g.met.R.Rows.cells_have_room c.self.inside.rows p q here)) _ c.self.view_is
    g.places.points g.places.es q.0 q.1.0 c.args.from c.args.to q.1.1.0.0 q.1.1.0.1 q.1.1.1.0
    c.in_ok-leaves.leaves.items told.lead told.leaf told.weight).lead

pub returns-clause-each : goal.returns-clause-each
returns-clause-each g c =
    let q = c.requires.1 in
    let told = c.in_ok-leaves.ensures in
    (unfolded_legs _ c.self.invariant
    (λ p q here. g.met.R.Rows.room_is_within c.self.inside.rows p q (g.met.R.Rows.cells_have_room c.self.inside.rows p q here)) _ c.self.view_is
    g.places.points g.places.es q.0 q.1.0 c.args.from c.args.to q.1.1.0.0 q.1.1.0.1 q.1.1.1.0
    c.in_ok-leaves.leaves.items told.lead told.leaf told.weight).each

pub returns-clause-weight : goal.returns-clause-weight
returns-clause-weight g c =
    let q = c.requires.1 in
    let told = c.in_ok-leaves.ensures in
    (unfolded_legs _ c.self.invariant
    (λ p q here. g.met.R.Rows.room_is_within c.self.inside.rows p q (g.met.R.Rows.cells_have_room c.self.inside.rows p q here)) _ c.self.view_is
    g.places.points g.places.es q.0 q.1.0 c.args.from c.args.to q.1.1.0.0 q.1.1.0.1 q.1.1.1.0
    c.in_ok-leaves.leaves.items told.lead told.leaf told.weight).weighs
