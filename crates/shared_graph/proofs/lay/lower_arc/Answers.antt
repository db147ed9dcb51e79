use Rattle.std.proofs.Common.{◌≡◌, arith, to_z, of_z}
use Rattle.std.specs.Int.{w128}
use Rattle.std.proofs.lemmas.Int.{ints}
use Rattle.stn_model.specs.Arcs.{bound_at}
use Rattle.shared_graph.specs.Publications.{via_of}
use Rattle.shared_graph.proofs.graphs.Laying.{weight_one, laid_one}
use Rattle.shared_graph.proofs.lay.lower_arc.Goals as goal

pub unreachable-requires : goal.unreachable-requires
unreachable-requires g c = (let w = c.requires.joining.starts c.args.n c.requires.within in c.in_default.ensures.none w.0 w.1 w.2)

pub unreachable-requires-in_default-place_among : goal.unreachable-requires-in_default-place_among
unreachable-requires-in_default-place_among g c =
    let w = c.requires.joining.ends c.args.n c.requires.within in
    c.in_default-place_among.ensures.none w.0 w.1 w.2

pub returns-clause-weights : goal.returns-clause-weights
returns-clause-weights g c =
    let weighs : to_z w128 (of_z w128 c.from.result) ≡ bound_at c.args.arcs.now c.args.n = omega (arith, ints) in
    weight_one c.args.points.now c.requires.rising c.args.arcs.now c.args.n c.in-Some.from c.in-Some-place_among.to c.in-Some.ensures.some.0
    c.in-Some-place_among.ensures.some.0 c.in-Some.ensures.some.1 c.in-Some-place_among.ensures.some.1
    (record { weight = to_z w128 (of_z w128 c.from.result); via = c.via_of.result }) (g.R.Rows.at c.args.rows.now)
    (g.R.Rows.at c.lower.new.self) c.lower.ensures.cells weighs

pub returns-clause-laid : goal.returns-clause-laid
returns-clause-laid g c =
    let weighs : to_z w128 (of_z w128 c.from.result) ≡ bound_at c.args.arcs.now c.args.n = omega (arith, ints) in
    laid_one c.args.points.now c.requires.rising c.args.arcs.now c.args.n c.in-Some.from c.in-Some-place_among.to c.in-Some.ensures.some.0
    c.in-Some-place_among.ensures.some.0 c.in-Some.ensures.some.1 c.in-Some-place_among.ensures.some.1
    (record { weight = to_z w128 (of_z w128 c.from.result); via = c.via_of.result }) (via_of c.args.agent c.args.n) (g.R.Rows.at c.args.rows.now)
    (g.R.Rows.at c.lower.new.self) c.requires.within c.lower.ensures.cells weighs c.via_of.ensures
