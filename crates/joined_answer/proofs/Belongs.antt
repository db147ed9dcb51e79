-- The parts of a solved network belong to it, and their order is that of the record: untimed, of_one, belonging, laid_order.
use Rattle.std.proofs.Common.{◌≡◌, ℕ, List, [], ◌∷◌, ◌++◌, true, Some, None, map, ap, sym, ◌∙◌, refl, append_assoc}
use Rattle.std.specs.Prelude.{reverse, is_some, if◌then◌else◌}
use Rattle.std.specs.List.{list_all}
use Rattle.std.proofs.lemmas.Bool.{and_parts, false≢true}
use Rattle.std.proofs.lemmas.List.{map-append, reverse-reverse}
use Rattle.stn_model.specs.declared.ids.PointId.{PointId}
use Rattle.stn_model.specs.Joined.{joined_order}
use Rattle.stn_model.specs.Net.{Net}
use Rattle.private_elim.specs.Backs.{BoundsView}
use Rattle.private_elim.specs.ReducedViews.{ReducedView}
use Rattle.shared_graph.specs.declared.events.Entry.{Entry}
use Rattle.shared_graph.specs.declared.events.Event.{Event}
use Rattle.shared_graph.specs.declared.events.Event.TheVariants.{Publish, Eliminate, Stop, Revisit, Assign, Widen}
use Rattle.shared_graph.specs.Histories.{SharedView}
use Rattle.shared_graph.specs.Interfaces.{InterfaceView, Summary}
use Rattle.shared_graph.specs.Journals.{is_before_times}
use Rattle.shared_graph.specs.Refusals.{refusal}
use Rattle.shared_graph.specs.Replays.{after, replay}
use Rattle.shared_graph.specs.States.{State, start}
use Rattle.conflict_cycle.specs.PartOrders.{order_of}
use Rattle.conflict_cycle.specs.Parts.{BelongsTo}
use Rattle.conflict_cycle.proofs.ReducedParts.{parts_published}
use Rattle.agent_worker.specs.Backs.{ArePartsOfOne, AreBacks}
use Rattle.joined_answer.specs.Joins.{SolvedBy, private_of}
use Rattle.joined_answer.proofs.Orders.{numbers}

-- no point gets a time before the phases in which points do
after_untimed : (face : InterfaceView) (summaries : List Summary) (event : Event) (s : State) → is_before_times event ≡ true
    → (after face summaries s event).assigned ≡ s.assigned
after_untimed face summaries (Publish a) s h = refl
after_untimed face summaries (Eliminate k) s h = refl
after_untimed face summaries (Stop k i) s h = refl
after_untimed face summaries (Revisit k) s h = refl
after_untimed face summaries (Assign k v) s h = absurd (false≢true h)
after_untimed face summaries (Widen k end) s h = absurd (false≢true h)

replay_untimed : (face : InterfaceView) (summaries : List Summary) (es : List Entry) (s t : State)
    → list_all (λ e. is_before_times e.event) es ≡ true → replay face summaries s es ≡ Some t → t.assigned ≡ s.assigned
replay_untimed face summaries [] s t before h = (let e : s ≡ t = cc in ap (λ (u : State). u.assigned) (sym e))
replay_untimed face summaries (x ∷ es) s t before h =
    elim (refusal face s x) as (λ o. (if is_some o then None else replay face summaries (after face summaries s x.event) es) ≡ Some t
    → t.assigned ≡ s.assigned) [
      | None ↦ λ g.
          (let both = and_parts (is_before_times x.event) (list_all (λ f. is_before_times f.event) es) before in
          replay_untimed face summaries es (after face summaries s x.event) t both.1 g ∙ after_untimed face summaries x.event s both.0)
      | Some c ↦ λ g. absurd (cc)
    ] h

module _ (net : Net) (reduced : List ReducedView) (v : SharedView) (h : SolvedBy net reduced v) where
  pub untimed : v.state.assigned ≡ []
  untimed = replay_untimed _ h.stands.summaries v.journal start v.state h.before h.stands.replays

  pub of_one : ArePartsOfOne net reduced v
  of_one = record {
    parts = h.parts;
    stands = h.stands;
    published = parts_published reduced (map (λ (r : ReducedView). r.summary) reduced) v.state refl h.agree;
  }

  pub belonging : (bounds : List BoundsView) → AreBacks v reduced bounds
      → BelongsTo net (record { reduced = reduced; shared = v; bounds = bounds })
  belonging bounds back = record {
    reduced = h.parts;
    stands = h.stands;
    published = of_one.published;
    one_each = back.one_each;
    back = back.each;
  }

-- private orders in turn, then the shared order and z
laid_flat : (reduced : List ReducedView) (shared : List ℕ)
    → private_of reduced ++ (shared ++ 0 ∷ []) ≡ joined_order (map (λ (r : ReducedView). r.order) reduced) shared
laid_flat [] shared = refl
laid_flat (r ∷ reduced) shared = append_assoc r.order (private_of reduced) (shared ++ 0 ∷ []) ∙ ap (λ xs. r.order ++ xs) (laid_flat reduced shared)

pub laid_order : (reduced : List ReducedView) (s : State) (private shared order : List PointId) (z : PointId) → z.0 ≡ 0
    → numbers private ≡ private_of reduced → reverse (numbers shared) ≡ s.order → order ≡ private ++ shared ++ z ∷ []
    → numbers order ≡ order_of reduced s
laid_order reduced s private shared order z zeroth first second is =
    ap numbers (is ∙ append_assoc private shared (z ∷ [])) ∙ map-append (λ (p : PointId). p.0) private (shared ++ z ∷ [])
    ∙ ap (λ xs. numbers private ++ xs) (map-append (λ (p : PointId). p.0) shared (z ∷ []))
    ∙ ap (λ k. numbers private ++ (numbers shared ++ k ∷ [])) zeroth
    ∙ ap (λ (xs : List ℕ). xs ++ (numbers shared ++ 0 ∷ [])) first
    ∙ ap (λ (xs : List ℕ). private_of reduced ++ (xs ++ 0 ∷ [])) (sym (reverse-reverse (numbers shared)) ∙ ap reverse second)
    ∙ laid_flat reduced (reverse s.order)
