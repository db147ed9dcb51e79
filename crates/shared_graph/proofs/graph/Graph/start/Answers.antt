use Rattle.std.proofs.Common.{◌≡◌, ◌<◌, ◌∙◌, ◌-◌, ◌||◌, ◌&&◌, ◌==◌, not, ℕ, true, None, map, length, ap, subst, arith, Vec, Global}
use Rattle.std.specs.Prelude.{vec_capacity, replicate}
use Rattle.std.proofs.lemmas.List.{length-map}
use Rattle.stn_walk.specs.Eliminations.{lesser, bound_of}
use Rattle.stn_walk.specs.Joins.{has_edge}
use Rattle.elim_step.specs.Eliminated.{point_at, weight_at}
use Rattle.elim_step.specs.JoinedPlaces.{is_joined}
use Rattle.shared_graph.specs.Graphs.{places_in, state_of}
use Rattle.shared_graph.specs.Publications.{IsOldOrLaid}
use Rattle.shared_graph.specs.Views.{interface_view}
use Rattle.shared_graph.proofs.graphs.Copying.{renamed}
use Rattle.shared_graph.proofs.graphs.Laying.{externals_joining}
use Rattle.shared_graph.proofs.graphs.Starting.{started_graph}
use Rattle.shared_graph.proofs.graph.Graph.start.Goals as goal

pub open_arcs-requires-clause-joining : goal.open_arcs-requires-clause-joining
open_arcs-requires-clause-joining g c =
    let points = c.as_slice.ensures.value ∙ c.in_ok-points.ensures.points in
    rw (points, c.external_arcs.ensures.arcs) (externals_joining c.args.interface c.external_arcs.ensures.valid)

pub lower_arcs-requires-clause-joining : goal.lower_arcs-requires-clause-joining
lower_arcs-requires-clause-joining g c =
    let points = c.as_slice-2.ensures.value ∙ c.in_ok-points.ensures.points in
    rw (points, c.external_arcs-2.ensures.arcs) (externals_joining c.args.interface c.external_arcs-2.ensures.valid)

pub invariant_of-result-2 : goal.invariant_of-result-2
invariant_of-result-2 g c =
    let face = c.args.interface in
    let known = c.external_arcs.ensures.valid in
    let points : c.in_ok-points.points.items ≡ places_in face = c.in_ok-points.ensures.points in
    let size : c.len-size.result ≡ length (places_in face) =
    (let many = ap length points in omega (arith, c.in_ok-points.points.ok.0, c.len-size.ensures)) in
    let points_1 = c.as_slice.ensures.value ∙ points in
    let points_2 = c.as_slice-2.ensures.value ∙ points in
    let at = g.R.Rows.at c.lower_arcs.new.rows in
    let empty : (p q : ℕ) → g.R.Rows.at c.open_arcs.new.rows p q ≡ None = λ p q. c.open_arcs.ensures.cells p q ∙ c.requires.rows_empty p q in
    let weights : (p q : ℕ) → p < length (places_in face) → q < length (places_in face)
    → weight_at (at p q) ≡ bound_of face.externals (point_at (places_in face) p) (point_at (places_in face) q) =
    λ p q lp lq. (rw (points_2, c.external_arcs-2.ensures.arcs) at c.lower_arcs.ensures.weights) p q lp lq
    ∙ ap (λ o. lesser (weight_at o) (bound_of face.externals (point_at (places_in face) p) (point_at (places_in face) q))) (empty p q) in
    let laid : (p q : ℕ) → IsOldOrLaid (places_in face) face.externals None p q None (at p q) =
    λ p q. subst (λ o. IsOldOrLaid (places_in face) face.externals None p q o (at p q)) (empty p q)
    ((rw (points_2, c.external_arcs-2.ensures.arcs) at c.lower_arcs.ensures.laid) p q) in
    let joined : (p q : ℕ) → p < length (places_in face) → q < length (places_in face)
    → is_joined c.open_arcs.new.joins p q ≡ (not (p == q) && has_edge face.externals (point_at (places_in face) p) (point_at (places_in face) q)) =
    λ p q lp lq. (rw (points_1, c.external_arcs.ensures.arcs) at c.in_ok-open_arcs.ensures.joined) p q lp lq
    ∙ ap (λ b. b || (not (p == q) && has_edge face.externals (point_at (places_in face) p) (point_at (places_in face) q))) (c.in_ok-joins.ensures.pairs p q) in
    let remain : c.in_ok-vec.field-0.items ≡ replicate (length (places_in face)) true =
    c.in_ok-vec.ensures.items_if_clones_equal (λ y e. e) ∙ ap (λ n. replicate n true) size in
    let later : length (map (λ (l : Vec ℕ Global). l.items) c.in_ok-no_lists.field-0.items) ≡ length (places_in face) =
    length-map c.in_ok-no_lists.field-0.items (λ l. l.items) ∙ c.in_ok-no_lists.ensures.len ∙ size in
    let gone : c.in_ok-vec-2.field-0.items ≡ replicate (length (places_in face)) 0 =
    c.in_ok-vec-2.ensures.items_if_clones_equal (λ y e. e) ∙ ap (λ n. replicate n 0) size in
    let room = c.in_ok-with_capacity.ensures.capacity in
    renamed _
    (started_graph face known at laid (g.R.Rows.places c.lower_arcs.new.rows) c.open_arcs.new.joins c.in_ok-vec.field-0.items
    (map (λ (l : Vec ℕ Global). l.items) c.in_ok-no_lists.field-0.items) (g.R.Rows.places c.args.finals) (g.R.Rows.at c.args.finals)
    (g.R.Rows.has_room c.args.finals) c.in_ok-origin_alone.field-0.items c.agents-unpublished.result (c.len-size.result - 1) (c.len-size.result - 1)
    (vec_capacity c.in_ok-with_capacity.field-0) c.in_ok-vec-2.field-0.items (c.lower_arcs.ensures.places ∙ c.open_arcs.ensures.places ∙ c.requires.rows_size)
    (c.open_arcs.ensures.size ∙ c.in_ok-joins.ensures.size ∙ size) weights joined remain later c.requires.finals_size c.requires.finals_empty
    (c.in_ok-origin_alone.ensures.len ∙ size) c.in_ok-origin_alone.ensures.each c.agents-unpublished.ensures (omega arith) (omega arith) (omega arith) gone)
    (interface_view c.interface.inside) (state_of c.new-2.result.items c.new-3.result.items None c.in_ok-with_capacity.field-0.items)
    c.in_ok-points.points.items c.interface.view_is
    (λ t. state_of (c.new-2.ensures.items t) (c.new-3.ensures.items t) None (c.in_ok-with_capacity.ensures.items t)) points
