use Rattle.elim_step.specs.JoinedPlaces.{is_joined}
use Rattle.shared_graph.proofs.graphs.Laying.{joined_one, room_one}
use Rattle.shared_graph.proofs.lay.open_arc.Goals as goal

pub unreachable-requires : goal.unreachable-requires
unreachable-requires g c = (let w = c.requires.joining.starts c.args.n c.requires.within in c.in_default.ensures.none w.0 w.1 w.2)

pub unreachable-requires-in_default-place_among : goal.unreachable-requires-in_default-place_among
unreachable-requires-in_default-place_among g c =
    let w = c.requires.joining.ends c.args.n c.requires.within in
    c.in_default-place_among.ensures.none w.0 w.1 w.2

pub returns-clause-room : goal.returns-clause-room
returns-clause-room g c =
    room_one c.args.points.now c.requires.rising c.args.arcs.now c.args.n c.in-Some.from c.in-Some-place_among.to c.in-Some.ensures.some.0
    c.in-Some-place_among.ensures.some.0 c.in-Some.ensures.some.1 c.in-Some-place_among.ensures.some.1 (g.R.Rows.has_room c.args.rows.now)
    (g.R.Rows.has_room c.make_room.new.self) c.in_ok-make_room.ensures.room

pub returns-clause-joined : goal.returns-clause-joined
returns-clause-joined g c =
    joined_one c.args.points.now c.requires.rising c.args.arcs.now c.args.n c.in-Some.from c.in-Some-place_among.to c.in-Some.ensures.some.0
    c.in-Some-place_among.ensures.some.0 c.in-Some.ensures.some.1 c.in-Some-place_among.ensures.some.1 (is_joined c.args.joins.now)
    (is_joined c.join.new.self) c.in_ok-join.ensures.pairs
