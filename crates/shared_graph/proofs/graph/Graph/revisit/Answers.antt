use Rattle.std.proofs.Common.{map, ◌≤◌, ◌+◌, ◌*◌, subst, arith}
use Rattle.std.proofs.lemmas.List.{length-map, length-reverse}
use Rattle.stn_model.specs.declared.ids.PointId.{PointId}
use Rattle.shared_graph.proofs.graphs.Readying.{visit_of, later_read, list_low, later_list, asks_all, asks_some, asks_others, asks_fresh, asks_finals}
use Rattle.shared_graph.proofs.graphs.Readying.{some_left, room_left}
use Rattle.shared_graph.proofs.graphs.Revisiting.{visit_grown, visited_graph, later_told}
use Rattle.shared_graph.proofs.graphs.Standing.{cells_light}
use Rattle.shared_graph.proofs.graph.Graph.revisit.Goals as goal

pub revisit_rows-requires-clause-all_within : goal.revisit_rows-requires-clause-all_within
revisit_rows-requires-clause-all_within g c =
    let i = c.self.inside in
    let k = c.in-Some.place in
    let at = c.in-Some.ensures in
    let visit = visit_of _ c.self.invariant _ c.self.view_is c.args.point k c.requires at.some.0 at.some.1 in
    let list = c.as_slice-later.result.now in
    let read =
    later_read i.later.items k c.index.result.now list (list_low _ c.self.invariant c.args.point.0 k visit) c.index.ensures
    c.as_slice-later.ensures.value in
    let l = later_list _ c.self.invariant c.args.point.0 k visit list read in
    asks_all _ c.self.invariant c.args.point.0 k visit list l

pub revisit_rows-requires-clause-some : goal.revisit_rows-requires-clause-some
revisit_rows-requires-clause-some g c =
    let i = c.self.inside in
    let k = c.in-Some.place in
    let at = c.in-Some.ensures in
    let visit = visit_of _ c.self.invariant _ c.self.view_is c.args.point k c.requires at.some.0 at.some.1 in
    let list = c.as_slice-later.result.now in
    let read =
    later_read i.later.items k c.index.result.now list (list_low _ c.self.invariant c.args.point.0 k visit) c.index.ensures
    c.as_slice-later.ensures.value in
    let l = later_list _ c.self.invariant c.args.point.0 k visit list read in
    asks_some _ c.self.invariant c.args.point.0 k visit list l

pub revisit_rows-requires-clause-others : goal.revisit_rows-requires-clause-others
revisit_rows-requires-clause-others g c =
    let i = c.self.inside in
    let k = c.in-Some.place in
    let at = c.in-Some.ensures in
    let visit = visit_of _ c.self.invariant _ c.self.view_is c.args.point k c.requires at.some.0 at.some.1 in
    let list = c.as_slice-later.result.now in
    let read =
    later_read i.later.items k c.index.result.now list (list_low _ c.self.invariant c.args.point.0 k visit) c.index.ensures
    c.as_slice-later.ensures.value in
    let l = later_list _ c.self.invariant c.args.point.0 k visit list read in
    asks_others _ c.self.invariant c.args.point.0 k visit list l

pub revisit_rows-requires-clause-fresh : goal.revisit_rows-requires-clause-fresh
revisit_rows-requires-clause-fresh g c =
    let i = c.self.inside in
    let k = c.in-Some.place in
    let at = c.in-Some.ensures in
    let visit = visit_of _ c.self.invariant _ c.self.view_is c.args.point k c.requires at.some.0 at.some.1 in
    let list = c.as_slice-later.result.now in
    let read =
    later_read i.later.items k c.index.result.now list (list_low _ c.self.invariant c.args.point.0 k visit) c.index.ensures
    c.as_slice-later.ensures.value in
    let l = later_list _ c.self.invariant c.args.point.0 k visit list read in
    asks_fresh _ c.self.invariant c.args.point.0 k visit list l

pub revisit_rows-requires-clause-rising : goal.revisit_rows-requires-clause-rising
revisit_rows-requires-clause-rising g c =
    let i = c.self.inside in
    let k = c.in-Some.place in
    let at = c.in-Some.ensures in
    let visit = visit_of _ c.self.invariant _ c.self.view_is c.args.point k c.requires at.some.0 at.some.1 in
    let list = c.as_slice-later.result.now in
    let read =
    later_read i.later.items k c.index.result.now list (list_low _ c.self.invariant c.args.point.0 k visit) c.index.ensures
    c.as_slice-later.ensures.value in
    let l = later_list _ c.self.invariant c.args.point.0 k visit list read in
    l.rising

pub revisit_rows-requires-clause-room_out : goal.revisit_rows-requires-clause-room_out
revisit_rows-requires-clause-room_out g c =
    let i = c.self.inside in
    let k = c.in-Some.place in
    let at = c.in-Some.ensures in
    let visit = visit_of _ c.self.invariant _ c.self.view_is c.args.point k c.requires at.some.0 at.some.1 in
    let list = c.as_slice-later.result.now in
    let read =
    later_read i.later.items k c.index.result.now list (list_low _ c.self.invariant c.args.point.0 k visit) c.index.ensures
    c.as_slice-later.ensures.value in
    let l = later_list _ c.self.invariant c.args.point.0 k visit list read in
    λ j here. (l.room j here).0

pub revisit_rows-requires-clause-room_back : goal.revisit_rows-requires-clause-room_back
revisit_rows-requires-clause-room_back g c =
    let i = c.self.inside in
    let k = c.in-Some.place in
    let at = c.in-Some.ensures in
    let visit = visit_of _ c.self.invariant _ c.self.view_is c.args.point k c.requires at.some.0 at.some.1 in
    let list = c.as_slice-later.result.now in
    let read =
    later_read i.later.items k c.index.result.now list (list_low _ c.self.invariant c.args.point.0 k visit) c.index.ensures
    c.as_slice-later.ensures.value in
    let l = later_list _ c.self.invariant c.args.point.0 k visit list read in
    λ j here. (l.room j here).1

pub revisit_rows-requires-clause-forward : goal.revisit_rows-requires-clause-forward
revisit_rows-requires-clause-forward g c =
    let i = c.self.inside in
    cells_light _ c.self.invariant (λ p q here. g.met.R.Rows.room_is_within i.rows p q (g.met.R.Rows.cells_have_room i.rows p q here))

pub revisit_rows-requires-clause-finals : goal.revisit_rows-requires-clause-finals
revisit_rows-requires-clause-finals g c =
    let i = c.self.inside in
    let k = c.in-Some.place in
    let at = c.in-Some.ensures in
    let visit = visit_of _ c.self.invariant _ c.self.view_is c.args.point k c.requires at.some.0 at.some.1 in
    asks_finals _ c.self.invariant c.args.point.0 k visit
    (λ p q here. g.met.R.Rows.room_is_within i.finals p q (g.met.R.Rows.cells_have_room i.finals p q here))

pub push_reserved-requires : goal.push_reserved-requires
push_reserved-requires g c =
    let i = c.self.inside in
    let k = c.in-Some.place in
    let at = c.in-Some.ensures in
    let visit = visit_of _ c.self.invariant _ c.self.view_is c.args.point k c.requires at.some.0 at.some.1 in
    let room = room_left _ c.self.invariant c.args.point.0 k visit in
    let turned = length-reverse (map (λ (p : PointId). p.0) i.revisited.items) in
    let many = length-map i.revisited.items (λ (p : PointId). p.0) in
    let len = i.revisited.ok.0 in
    omega arith

pub overflow_sub-self : goal.overflow_sub-self
overflow_sub-self g c =
    let i = c.self.inside in
    let k = c.in-Some.place in
    let at = c.in-Some.ensures in
    let visit = visit_of _ c.self.invariant _ c.self.view_is c.args.point k c.requires at.some.0 at.some.1 in
    let left = some_left _ c.self.invariant c.args.point.0 k visit in
    omega arith

pub invariant_of-self : goal.invariant_of-self
invariant_of-self g c =
    let i = c.self.inside in
    let k = c.in-Some.place in
    let at = c.in-Some.ensures in
    let visit = visit_of _ c.self.invariant _ c.self.view_is c.args.point k c.requires at.some.0 at.some.1 in
    let list = c.as_slice-later.result.now in
    let read =
    later_read i.later.items k c.index.result.now list (list_low _ c.self.invariant c.args.point.0 k visit) c.index.ensures
    c.as_slice-later.ensures.value in
    let l = later_list _ c.self.invariant c.args.point.0 k visit list read in
    let left = some_left _ c.self.invariant c.args.point.0 k visit in
    visited_graph _ c.self.invariant c.args.point.0 k visit list l
    (λ p q here. g.met.R.Rows.room_is_within i.rows p q (g.met.R.Rows.cells_have_room i.rows p q here))
    (g.R.Rows.at c.revisit_rows.new.finals) c.revisit_rows.ensures.cells _ _ _ _ _
    (visit_grown i.published.items i.order.items i.stop i.revisited.items c.push_reserved.new.self.items c.args.point _ c.push_reserved.ensures.items visit.is)
    c.revisit_rows.ensures.places c.revisit_rows.ensures.room (omega arith) c.push_reserved.ensures.capacity

pub returns-clause-most : goal.returns-clause-most
returns-clause-most g c =
    let i = c.self.inside in
    let k = c.in-Some.place in
    let at = c.in-Some.ensures in
    let visit = visit_of _ c.self.invariant _ c.self.view_is c.args.point k c.requires at.some.0 at.some.1 in
    let list = c.as_slice-later.result.now in
    let read =
    later_read i.later.items k c.index.result.now list (list_low _ c.self.invariant c.args.point.0 k visit) c.index.ensures
    c.as_slice-later.ensures.value in
    let l = later_list _ c.self.invariant c.args.point.0 k visit list read in
    let many =
    later_told _ c.self.invariant _ c.self.view_is c.args.point.0 k visit list l
    (λ p q here. g.met.R.Rows.room_is_within i.rows p q (g.met.R.Rows.cells_have_room i.rows p q here)) in
    subst (λ d. c.revisit_rows.new.steps ≤ c.args.steps.now + 2 * d * d) many c.revisit_rows.ensures.most
