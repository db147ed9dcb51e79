use Rattle.std.proofs.Common.{◌≡◌, ◌<◌, ◌∙◌, ◌∷◌, ◌-◌, ◌||◌, ◌&&◌, ◌==◌, not, ℕ, List, Some, None, map, length, ap, sym, refl, subst, arith, Vec, Global}
use Rattle.std.specs.Prelude.{vec_capacity, reverse}
use Rattle.std.specs.List.{AllPairs}
use Rattle.stn_walk.specs.Eliminations.{lesser, bound_of}
use Rattle.stn_walk.specs.Joins.{has_edge}
use Rattle.elim_step.specs.Eliminated.{point_at, weight_at}
use Rattle.elim_step.specs.JoinedPlaces.{is_joined}
use Rattle.shared_graph.specs.declared.events.By.TheVariants.{Joiner}
use Rattle.shared_graph.specs.declared.events.Event.TheVariants.{Publish}
use Rattle.shared_graph.specs.Graphs.{Fields, state_of, published_of}
use Rattle.shared_graph.specs.Interfaces.{IsFitting}
use Rattle.shared_graph.specs.Publications.{IsOldOrLaid}
use Rattle.shared_graph.specs.Refusals.{refusal}
use Rattle.shared_graph.specs.States.{agent_arcs}
use Rattle.shared_graph.proofs.graphs.Keeping.{still_graph}
use Rattle.shared_graph.proofs.graphs.Laying.{agent_joining}
use Rattle.shared_graph.proofs.graphs.Publishers.{told_more}
use Rattle.shared_graph.proofs.graphs.Publishing.{may_publish, some_left, published_graph}
use Rattle.shared_graph.proofs.graphs.Standing.{places_rise}
use Rattle.shared_graph.proofs.graph.Graph.publish.Goals as goal

pub open_arcs-requires-clause-rising : goal.open_arcs-requires-clause-rising
open_arcs-requires-clause-rising g c =
    let same = c.as_slice.ensures.value ∙ c.self.invariant.points in
    subst (λ (xs : List ℕ). AllPairs (λ p q. p < q) xs) (sym same) (places_rise c.self.inside.interface c.self.invariant.interface)

pub open_arcs-requires-clause-joining : goal.open_arcs-requires-clause-joining
open_arcs-requires-clause-joining g c =
    let points = c.as_slice.ensures.value ∙ c.self.invariant.points in
    let arcs = c.as_slice-2.ensures.value ∙ c.in_ok-arcs.ensures in
    rw (points, arcs) (agent_joining c.self.inside.interface c.self.invariant.interface
    (record { agent = c.args.agent.0; entries = c.args.summary.now }) (rw (← c.self.view_is) at c.requires.fits))

pub invariant_of-self-in_err-open_arcs : goal.invariant_of-self-in_err-open_arcs
invariant_of-self-in_err-open_arcs g c =
    let i = c.self.inside in
    let e : Fields = record {
      face = i.interface;
      state = state_of i.published.items i.order.items i.stop i.revisited.items;
      points = i.points.items;
      places = g.R.Rows.places i.rows;
      at = g.R.Rows.at i.rows;
      joins = i.joins;
      remain = i.remain.items;
      later = map (λ (l : Vec ℕ Global). l.items) i.later.items;
      final_places = g.R.Rows.places i.finals;
      final_at = g.R.Rows.at i.finals;
      final_room = g.R.Rows.has_room i.finals;
      done = i.done.items;
      unpublished = i.unpublished;
      untaken = i.untaken;
      unvisited = i.unvisited;
      revisit_room = vec_capacity i.revisited;
      gone = i.gone.items;
    } in
    still_graph e c.self.invariant (state_of c.reserve.new.self.items i.order.items i.stop i.revisited.items) (g.R.Rows.places c.open_arcs.new.rows)
    (g.R.Rows.at c.open_arcs.new.rows) i.joins e.final_places e.final_at e.final_room
    (ap (λ published. state_of published i.order.items i.stop i.revisited.items) c.reserve.ensures.items) c.open_arcs.ensures.places
    c.open_arcs.ensures.cells refl (λ p q. refl) refl (λ p q. refl) (λ p q here. here)

pub lower_arcs-requires-clause-rising : goal.lower_arcs-requires-clause-rising
lower_arcs-requires-clause-rising g c =
    let same = c.as_slice-3.ensures.value ∙ c.self.invariant.points in
    subst (λ (xs : List ℕ). AllPairs (λ p q. p < q) xs) (sym same) (places_rise c.self.inside.interface c.self.invariant.interface)

pub lower_arcs-requires-clause-joining : goal.lower_arcs-requires-clause-joining
lower_arcs-requires-clause-joining g c =
    let points = c.as_slice-3.ensures.value ∙ c.self.invariant.points in
    let arcs = c.as_slice-4.ensures.value ∙ c.in_ok-arcs.ensures in
    rw (points, arcs) (agent_joining c.self.inside.interface c.self.invariant.interface
    (record { agent = c.args.agent.0; entries = c.args.summary.now }) (rw (← c.self.view_is) at c.requires.fits))

pub lower_arcs-requires-clause-room : goal.lower_arcs-requires-clause-room
lower_arcs-requires-clause-room g c =
    rw (c.as_slice-3.ensures.value, c.as_slice-4.ensures.value)
    (rw (c.as_slice.ensures.value, c.as_slice-2.ensures.value) at c.in_ok-open_arcs.ensures.room)

pub overflow_sub-self : goal.overflow_sub-self
overflow_sub-self g c =
    let i = c.self.inside in
    let e : Fields = record {
      face = i.interface;
      state = state_of i.published.items i.order.items i.stop i.revisited.items;
      points = i.points.items;
      places = g.R.Rows.places i.rows;
      at = g.R.Rows.at i.rows;
      joins = i.joins;
      remain = i.remain.items;
      later = map (λ (l : Vec ℕ Global). l.items) i.later.items;
      final_places = g.R.Rows.places i.finals;
      final_at = g.R.Rows.at i.finals;
      final_room = g.R.Rows.has_room i.finals;
      done = i.done.items;
      unpublished = i.unpublished;
      untaken = i.untaken;
      unvisited = i.unvisited;
      revisit_room = vec_capacity i.revisited;
      gone = i.gone.items;
    } in
    let legal : refusal e.face e.state (record { by = Joiner; event = Publish c.args.agent }) ≡ None = (rw (← c.self.view_is) at c.requires.legal) in
    let fits : IsFitting e.face c.args.agent.0 c.args.summary.now = (rw (← c.self.view_is) at c.requires.fits) in
    let may = may_publish e.face e.state c.args.agent legal in
    let some = some_left e c.self.invariant c.args.agent c.args.summary.now fits may.0 may.1 may.2 in
    omega arith

pub invariant_of-self-2 : goal.invariant_of-self-2
invariant_of-self-2 g c =
    let i = c.self.inside in
    let e : Fields = record {
      face = i.interface;
      state = state_of i.published.items i.order.items i.stop i.revisited.items;
      points = i.points.items;
      places = g.R.Rows.places i.rows;
      at = g.R.Rows.at i.rows;
      joins = i.joins;
      remain = i.remain.items;
      later = map (λ (l : Vec ℕ Global). l.items) i.later.items;
      final_places = g.R.Rows.places i.finals;
      final_at = g.R.Rows.at i.finals;
      final_room = g.R.Rows.has_room i.finals;
      done = i.done.items;
      unpublished = i.unpublished;
      untaken = i.untaken;
      unvisited = i.unvisited;
      revisit_room = vec_capacity i.revisited;
      gone = i.gone.items;
    } in
    let h = c.self.invariant in
    let agent = c.args.agent in
    let entries = c.args.summary.now in
    let arcs = agent_arcs e.face (record { agent = agent.0; entries = entries }) in
    let legal : refusal e.face e.state (record { by = Joiner; event = Publish agent }) ≡ None = (rw (← c.self.view_is) at c.requires.legal) in
    let fits : IsFitting e.face agent.0 entries = (rw (← c.self.view_is) at c.requires.fits) in
    let may = may_publish e.face e.state agent legal in
    let some = some_left e h agent entries fits may.0 may.1 may.2 in
    let points_1 = c.as_slice.ensures.value in
    let arcs_1 : c.as_slice-2.result.now ≡ arcs = c.as_slice-2.ensures.value ∙ c.in_ok-arcs.ensures in
    let points_2 = c.as_slice-3.ensures.value in
    let arcs_2 : c.as_slice-4.result.now ≡ arcs = c.as_slice-4.ensures.value ∙ c.in_ok-arcs.ensures in
    let opened = g.R.Rows.at c.open_arcs.new.rows in
    let at = g.R.Rows.at c.lower_arcs.new.rows in
    let weights : (p q : ℕ) → p < length e.points → q < length e.points
    → weight_at (at p q) ≡ lesser (weight_at (e.at p q)) (bound_of arcs (point_at e.points p) (point_at e.points q)) =
    λ p q lp lq. (rw (points_2, arcs_2) at c.lower_arcs.ensures.weights) p q lp lq
    ∙ ap (λ o. lesser (weight_at o) (bound_of arcs (point_at e.points p) (point_at e.points q))) (c.open_arcs.ensures.cells p q) in
    let laid : (p q : ℕ) → IsOldOrLaid e.points arcs (Some agent) p q (e.at p q) (at p q) =
    λ p q. subst (λ o. IsOldOrLaid e.points arcs (Some agent) p q o (at p q)) (c.open_arcs.ensures.cells p q)
    ((rw (points_2, arcs_2) at c.lower_arcs.ensures.laid) p q) in
    let joined : (p q : ℕ) → p < length e.points → q < length e.points
    → is_joined c.open_arcs.new.joins p q ≡ (is_joined e.joins p q || (not (p == q) && has_edge arcs (point_at e.points p) (point_at e.points q))) =
    λ p q lp lq. (rw (points_1, arcs_1) at c.in_ok-open_arcs.ensures.joined) p q lp lq
    ∙ ap (λ b. b || (not (p == q) && has_edge arcs (point_at e.points p) (point_at e.points q))) (c.in_ok-joins.ensures.pairs p q) in
    let places = c.lower_arcs.ensures.places ∙ c.open_arcs.ensures.places in
    let size = c.open_arcs.ensures.size ∙ c.in_ok-joins.ensures.size in
    let told : reverse (map published_of c.push_reserved.new.self.items) ≡ record { agent = agent.0; entries = entries } ∷ e.state.published =
    ap (λ xs. reverse (map published_of xs)) c.push_reserved.ensures.items
    ∙ told_more c.reserve.new.self.items (record { agent = agent; summary = c.in_ok-summary.summary })
    ∙ (λ t. record { agent = agent.0; entries = c.in_ok-summary.ensures t } ∷ reverse (map published_of (c.reserve.ensures.items t))) in
    rw told (published_graph e h agent entries fits may.0 may.1 may.2 (g.R.Rows.places c.lower_arcs.new.rows) at c.open_arcs.new.joins
    (i.unpublished - 1) places size weights laid joined (omega arith))
