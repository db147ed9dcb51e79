use Rattle.std.proofs.Common.{◌≡◌, ◌∙◌, ◌+◌, ◌≤◌, ◌++◌, ℕ, map, refl, ap, length, arith, Vec, Global}
use Rattle.std.specs.Prelude.{vec_capacity}
use Rattle.std.proofs.lemmas.List.{length-map, length-reverse}
use Rattle.stn_model.specs.declared.ids.PointId.{PointId}
use Rattle.shared_graph.specs.Graphs.{Fields, state_of}
use Rattle.shared_graph.proofs.graphs.Keeping.{still_graph}
use Rattle.shared_graph.proofs.graphs.Copying.{refitted}
use Rattle.shared_graph.proofs.graph.Graph.copy.Goals as goal

pub invariant_of-result : goal.invariant_of-result
invariant_of-result g c =
    let i = c.self.inside in
    let h = c.self.invariant in
    let e : Fields = record {
      face = i.interface;
      state = state_of i.published.items i.order.items i.stop i.revisited.items;
      points = i.points.items;
      places = g.R.Rows.places i.rows;
      at = g.R.Rows.at i.rows;
      joins = i.joins;
      remain = i.remain.items;
      later = map (λ (l : Vec ℕ Global). l.items) i.later.items;
      final_places = g.R.Rows.places i.finals;
      final_at = g.R.Rows.at i.finals;
      final_room = g.R.Rows.has_room i.finals;
      done = i.done.items;
      unpublished = i.unpublished;
      untaken = i.untaken;
      unvisited = i.unvisited;
      revisit_room = vec_capacity i.revisited;
      gone = i.gone.items;
    } in
    let rows = c.in_ok-rows.ensures in
    let finals = c.in_ok-finals.ensures in
    let face : c.in_ok-interface.interface ≡ i.interface = c.in_ok-interface.ensures in
    let points : c.in_ok-points.points.items ≡ i.points.items = c.in_ok-points.ensures.items ∙ c.as_slice.ensures.value in
    let published : c.in_ok-published.published.items ≡ i.published.items = c.in_ok-published.ensures ∙ c.as_slice-2.ensures.value in
    let order : c.in_ok-order.order.items ≡ i.order.items = c.in_ok-order.ensures.items ∙ c.as_slice-3.ensures.value in
    let revisited : c.extend_from_slice.new.self.items ≡ i.revisited.items =
    c.in_ok-extend_from_slice.ensures.items ∙ ap (λ xs. xs ++ c.as_slice-4.result.now) c.in_ok-revisited.ensures.items ∙ c.as_slice-4.ensures.value in
    let remain : c.in_ok-remain.remain.items ≡ i.remain.items = c.in_ok-remain.ensures.items ∙ c.as_slice-5.ensures.value in
    let later : map (λ (l : Vec ℕ Global). l.items) c.in_ok-later.later.items ≡ map (λ (l : Vec ℕ Global). l.items) i.later.items =
    c.in_ok-later.ensures ∙ ap (map (λ (l : Vec ℕ Global). l.items)) c.as_slice-6.ensures.value in
    let done : c.in_ok-done.done.items ≡ i.done.items = c.in_ok-done.ensures.items ∙ c.as_slice-7.ensures.value in
    let gone : c.in_ok-gone.gone.items ≡ i.gone.items = c.in_ok-gone.ensures.items ∙ c.as_slice-8.ensures.value in
    let still =
    still_graph e h e.state (g.R.Rows.places c.in_ok-rows.rows) (g.R.Rows.at c.in_ok-rows.rows) c.in_ok-joins.joins (g.R.Rows.places c.in_ok-finals.finals)
    (g.R.Rows.at c.in_ok-finals.finals) (g.R.Rows.has_room c.in_ok-finals.finals) refl rows.places rows.cells c.in_ok-joins.ensures.size
    c.in_ok-joins.ensures.pairs finals.places finals.cells (λ p q here. finals.room p q ∙ here) in
    let fits : length e.state.revisited + i.unvisited ≤ vec_capacity c.extend_from_slice.new.self =
    (let many = length-reverse (map (λ (p : PointId). p.0) i.revisited.items) ∙ length-map i.revisited.items (λ p. p.0) in
    let room = c.in_ok-revisited.ensures.capacity in
    let more = c.in_ok-extend_from_slice.ensures.capacity in
    let len = c.len.ensures in
    omega (arith, i.revisited.ok.0)) in
    rw (face, points, published, order, revisited, remain, later, done, gone) (refitted _ still (vec_capacity c.extend_from_slice.new.self) fits)
