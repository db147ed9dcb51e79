use Rattle.std.proofs.Common.{None, ◌∙◌, sym, ap, arith}
use Rattle.std.proofs.lemmas.Int.{ints}
use Rattle.elim_step.specs.Eliminated.{weight_at}
use Rattle.shared_graph.proofs.graphs.Telling.{strange_from, strange_to, told_none, forward_told, some_told, origin_told}
use Rattle.shared_graph.proofs.graph.Graph.forward.Goals as goal

pub returns-in_err-from-clause-weight : goal.returns-in_err-from-clause-weight
returns-in_err-from-clause-weight g c =
    let v = c.args.self.now in
    let told = c.in_err-from.ensures in
    let away = strange_from v.face c.place_of.ensures.interface v.state c.place_of.ensures.together c.args.i.0 c.args.j.0 told.none in
    ap weight_at c.from_residual.ensures ∙ told_none v.face c.place_of.ensures.interface v.state c.place_of.ensures.together c.args.i.0 c.args.j.0 away

pub returns-in_err-to-clause-weight : goal.returns-in_err-to-clause-weight
returns-in_err-to-clause-weight g c =
    let v = c.args.self.now in
    let told = c.in_err-to.ensures in
    let away = strange_to v.face c.place_of.ensures.interface v.state c.place_of.ensures.together c.args.i.0 c.args.j.0 told.none in
    ap weight_at c.from_residual-in_err-to.ensures
    ∙ told_none v.face c.place_of.ensures.interface v.state c.place_of.ensures.together c.args.i.0 c.args.j.0 away

pub returns-in_err-cell-clause-weight : goal.returns-in_err-cell-clause-weight
returns-in_err-cell-clause-weight g c =
    let i = c.self.inside in
    let from = c.in_ok-from.ensures in
    let to = c.in_ok-to.ensures in
    ap weight_at c.from_residual-in_err-cell.ensures
    ∙ forward_told _ c.self.invariant (λ p q here. g.met.R.Rows.room_is_within i.rows p q (g.met.R.Rows.cells_have_room i.rows p q here)) _ c.self.view_is
    c.args.i.0 c.args.j.0 c.in_ok-from.from c.in_ok-to.to None from.some.0 from.some.1 to.some.0 to.some.1 c.in_err-cell.ensures

pub returns-clause-weight : goal.returns-clause-weight
returns-clause-weight g c =
    let i = c.self.inside in
    let from = c.in_ok-from.ensures in
    let to = c.in_ok-to.ensures in
    some_told _ c.self.invariant (λ p q here. g.met.R.Rows.room_is_within i.rows p q (g.met.R.Rows.cells_have_room i.rows p q here)) _ c.self.view_is
    c.args.i.0 c.args.j.0 c.in_ok-from.from c.in_ok-to.to c.in_ok-cell.cell _ from.some.0 from.some.1 to.some.0 to.some.1 c.in_ok-cell.ensures
    (omega (arith, ints))

pub returns-clause-origin : goal.returns-clause-origin
returns-clause-origin g c =
    let i = c.self.inside in
    let from = c.in_ok-from.ensures in
    let to = c.in_ok-to.ensures in
    origin_told _ c.self.invariant (λ p q here. g.met.R.Rows.room_is_within i.rows p q (g.met.R.Rows.cells_have_room i.rows p q here)) c.in_ok-from.from
    c.in_ok-to.to c.in_ok-cell.cell (sym c.in_ok-cell.ensures) _ c.self.view_is c.args.i.0 c.args.j.0 _ c.named.result from.some.1 to.some.1
    (omega (arith, ints)) c.named.ensures
