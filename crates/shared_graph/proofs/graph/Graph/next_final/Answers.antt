use Rattle.std.proofs.Common.{◌<◌, length, arith}
use Rattle.std.specs.Option.{option_map}
use Rattle.shared_graph.specs.Graphs.{places_in}
use Rattle.shared_graph.proofs.graphs.Nexts.{finals_told, next_some, next_none, next_least}
use Rattle.shared_graph.proofs.graph.Graph.next_final.Goals as goal

pub returns-in_default-next_neighbour-clause-none : goal.returns-in_default-next_neighbour-clause-none
returns-in_default-next_neighbour-clause-none g c =
    let v = c.args.self.now in
    let from = c.in-Some.ensures in
    let told = finals_told _ c.self.invariant v c.self.view_is in
    next_none v.face from.interface v.state from.together (g.R.Rows.at c.self.inside.finals) told.1 c.args.i.0 c.in-Some.row from.some.0 from.some.1
    c.place_before-before.result (option_map (λ p. p.0) c.args.after) c.place_before-before.ensures c.in_default-next_neighbour.ensures.none

pub returns-clause-some : goal.returns-clause-some
returns-clause-some g c =
    let v = c.args.self.now in
    let from = c.in-Some.ensures in
    let told = finals_told _ c.self.invariant v c.self.view_is in
    let place = c.in-Some-next_neighbour.place in
    let some = c.in-Some-next_neighbour.ensures.some in
    let size = told.0 in
    let within = some.0 in
    let low : place < length (places_in v.face) = omega arith in
    rw c.point_of.ensures
    (next_some v.face from.interface v.state from.together (g.R.Rows.at c.self.inside.finals) told.1 c.args.i.0 c.in-Some.row from.some.0 from.some.1
    c.place_before-before.result (option_map (λ p. p.0) c.args.after) c.place_before-before.ensures place low some.1 some.2)

pub returns-clause-least : goal.returns-clause-least
returns-clause-least g c =
    let v = c.args.self.now in
    let from = c.in-Some.ensures in
    let told = finals_told _ c.self.invariant v c.self.view_is in
    let place = c.in-Some-next_neighbour.place in
    let some = c.in-Some-next_neighbour.ensures.some in
    let size = told.0 in
    let within = some.0 in
    let low : place < length (places_in v.face) = omega arith in
    rw c.point_of.ensures
    (next_least v.face from.interface v.state from.together (g.R.Rows.at c.self.inside.finals) told.1 c.args.i.0 c.in-Some.row from.some.0 from.some.1
    c.place_before-before.result (option_map (λ p. p.0) c.args.after) c.place_before-before.ensures place low c.in-Some-next_neighbour.ensures.least)
