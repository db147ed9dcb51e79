-- What stays of a graph where its state stays, or only a stop is entered: leaf_same, still_together, still_graph, still_view, stopped_graph.
use Rattle.std.proofs.Common.{◌≡◌, ℕ, ◌<◌, List, Bool, true, Option, Some, None, [], ap, sym, ◌∙◌, refl, subst, arith}
use Rattle.std.specs.Prelude.{Contains}
use Rattle.stn_walk.specs.Eliminations.{is_in}
use Rattle.dist_rows.specs.declared.cell.Cell.{Cell}
use Rattle.dist_rows.specs.declared.cell.Via.{Via}
use Rattle.dist_rows.specs.declared.cell.Via.TheVariants.{Given, Published as PublishedBy, Through}
use Rattle.elim_step.specs.declared.joins.Joins.{Joins}
use Rattle.elim_step.specs.Eliminated.{point_at, weight_at}
use Rattle.elim_step.specs.JoinedPlaces.{is_joined as are_joined}
use Rattle.elim_step.proofs.OriginFacts.{origins_wider}
use Rattle.shared_graph.specs.declared.events.By.TheVariants.{Joiner}
use Rattle.shared_graph.specs.declared.events.Event.{Event}
use Rattle.shared_graph.specs.declared.events.Event.TheVariants.{Stop}
use Rattle.shared_graph.specs.declared.events.SharedCycle.{SharedCycle}
use Rattle.shared_graph.specs.Graphs.{IsMeetingLeaf, Fields, GraphView, IsGraph}
use Rattle.shared_graph.specs.Interfaces.{InterfaceView, IsInterface, IsFitting}
use Rattle.shared_graph.specs.Refusals.{refusal}
use Rattle.shared_graph.specs.Replays.{after, summary_of}
use Rattle.shared_graph.specs.States.{State, Published}
use Rattle.shared_graph.specs.Together.{HoldsTogether}
use Rattle.shared_graph.specs.Weights.{is_later, final}
use Rattle.shared_graph.proofs.graphs.Throughs.{stopped_came}
use Rattle.shared_graph.proofs.states.Keeps.{sound_of, entry_keeps, together}

-- the same agents have published, so the same weights are leaves
pub leaf_same : (face : InterfaceView) (s t : State) → t.published ≡ s.published → (points : List ℕ) (p q : ℕ) (c : Cell) (v : Via)
    → IsMeetingLeaf face s points p q c v → IsMeetingLeaf face t points p q c v
leaf_same face s t same points p q c (Given e) h = h
leaf_same face s t same points p q c (PublishedBy a) h = (h.0, subst (λ (ps : List Published). Contains ps h.0) (sym same) h.1, h.2, h.3)
leaf_same face s t same points p q c (Through k) h = h

-- an event but a publish is legal whatever the summaries are
no_summaries : (face : InterfaceView) (a : ℕ) → IsFitting face a (summary_of [] a)
no_summaries face a e h = absurd (let low : h.0 < 0 = h.1 in omega arith)

pub still_together : (face : InterfaceView) → IsInterface face → (s : State) → HoldsTogether face s → (e : Event)
    → refusal face s (record { by = Joiner; event = e }) ≡ None → HoldsTogether face (after face [] s e)
still_together face known s holds e legal =
    together face known (after face [] s e)
    (entry_keeps face known [] (no_summaries face) s (record { by = Joiner; event = e }) (sound_of face known s holds) legal)

-- where fields change in name or in room alone
pub still_graph : (g : Fields) → IsGraph g → (state : State) (places : ℕ) (at : ℕ → ℕ → Option Cell) (joins : Joins) (final_places : ℕ)
    (final_at : ℕ → ℕ → Option Cell) (final_room : ℕ → ℕ → Bool) → state ≡ g.state → places ≡ g.places → ((p q : ℕ) → at p q ≡ g.at p q)
    → joins.size ≡ g.joins.size → ((p q : ℕ) → are_joined joins p q ≡ are_joined g.joins p q) → final_places ≡ g.final_places
    → ((p q : ℕ) → final_at p q ≡ g.final_at p q) → ((p q : ℕ) → g.final_room p q ≡ true → final_room p q ≡ true)
    → IsGraph (record {
      face = g.face;
      state = state;
      points = g.points;
      places = places;
      at = at;
      joins = joins;
      remain = g.remain;
      later = g.later;
      final_places = final_places;
      final_at = final_at;
      final_room = final_room;
      done = g.done;
      unpublished = g.unpublished;
      untaken = g.untaken;
      unvisited = g.unvisited;
      revisit_room = g.revisit_room;
      gone = g.gone;
    })
still_graph g h state places at joins final_places final_at final_room same_state same_places cells size pairs final_size final_cells kept =
    let same_at : at ≡ g.at = (λ t p q. cells p q t) in
    let same_finals : final_at ≡ g.final_at = (λ t p q. final_cells p q t) in
    record {
      interface = h.interface;
      together = rw same_state h.together;
      points = h.points;
      places = same_places ∙ h.places;
      joins_size = size ∙ h.joins_size;
      cells = rw (same_state, same_at) h.cells;
      origins = rw (same_state, same_at) h.origins;
      sums = rw (same_state, same_at) h.sums;
      joined = λ p q lp lq. pairs p q ∙ rw same_state (h.joined p q lp lq);
      later_len = h.later_len;
      later = λ k low gone.
          let l = h.later k low (ap (λ (s : State). is_in s.order (point_at g.points k)) (sym same_state) ∙ gone) in
          record {
            rising = l.rising;
            within = l.within;
            each = λ m lm. l.each m lm ∙ ap (λ (s : State). is_later g.face s (point_at g.points k) (point_at g.points m)) (sym same_state);
            room = λ m here. let r = l.room m here in (kept k m r.0, kept m k r.1);
          };
      final_places = final_size ∙ h.final_places;
      finals = λ p q lp lq.
          ap weight_at (final_cells p q) ∙ h.finals p q lp lq
          ∙ ap (λ (s : State). final g.face s (point_at g.points p) (point_at g.points q)) (sym same_state);
      done_len = h.done_len;
      done = rw same_state h.done;
      unpublished = rw same_state h.unpublished;
      untaken = h.untaken;
      unvisited = h.unvisited;
      revisits_fit = rw same_state h.revisits_fit;
      throughs = rw (same_state, same_finals) h.throughs;
      gone = rw same_state h.gone;
    }

-- where a stop is entered
pub stopped_graph : (g : Fields) → IsGraph g → (v : GraphView) → record { face = g.face; state = g.state } ≡ v → (cycle : SharedCycle)
    → refusal v.face v.state (record { by = Joiner; event = Stop cycle.point cycle.other }) ≡ None
    → IsGraph (record {
      face = g.face;
      state = record g.state { stop = Some cycle };
      points = g.points;
      places = g.places;
      at = g.at;
      joins = g.joins;
      remain = g.remain;
      later = g.later;
      final_places = g.final_places;
      final_at = g.final_at;
      final_room = g.final_room;
      done = g.done;
      unpublished = g.unpublished;
      untaken = g.untaken;
      unvisited = g.unvisited;
      revisit_room = g.revisit_room;
      gone = g.gone;
    })
stopped_graph g h v e cycle legal =
    let s = g.state in
    let t : State = record g.state { stop = Some cycle } in
    record {
      interface = h.interface;
      together = still_together g.face h.interface s h.together (Stop cycle.point cycle.other)
          (ap (λ (v : GraphView). refusal v.face v.state (record { by = Joiner; event = Stop cycle.point cycle.other })) e ∙ legal);
      points = h.points;
      places = h.places;
      joins_size = h.joins_size;
      cells = h.cells;
      origins = origins_wider (IsMeetingLeaf g.face s g.points) (IsMeetingLeaf g.face t g.points) g.points s.order g.at (leaf_same g.face s t refl g.points)
          h.origins;
      sums = h.sums;
      joined = h.joined;
      later_len = h.later_len;
      later = λ k low gone.
          let l = h.later k low gone in
          record { rising = l.rising; within = l.within; each = l.each; room = l.room };
      final_places = h.final_places;
      finals = h.finals;
      done_len = h.done_len;
      done = h.done;
      unpublished = h.unpublished;
      untaken = h.untaken;
      unvisited = h.unvisited;
      revisits_fit = h.revisits_fit;
      throughs = stopped_came g.face s (Some cycle) g.points g.final_at h.throughs;
      gone = record { len = h.gone.len; each = h.gone.each };
    }
