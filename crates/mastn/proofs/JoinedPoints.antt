-- The points of a legal record of a solve are points of the network.
use Rattle.std.proofs.Common.{ℕ, suc, ◌≡◌, ◌<◌, List, [], ◌∷◌, ◌++◌, map, length, true, None, Some, refl, sym, subst, ◌∙◌, arith}
use Rattle.std.specs.Prelude.{is_some, if◌then◌else◌, slice_index_or}
use Rattle.std.specs.List.{All, AllByRecursion, flat_map}
use Rattle.std.proofs.lemmas.List.Elements.{All-nil, All-cons, All-append}
use Rattle.stn_model.specs.declared.ids.PointId.{PointId}
use Rattle.stn_model.specs.Net.{Net, point_count}
use Rattle.stn_model.specs.Valid.{IsNetwork}
use Rattle.private_elim.specs.Locals.{local_of, points_of, is_private_in}
use Rattle.private_elim.proofs.locals.Owned.{points_below}
use Rattle.private_elim.proofs.locals.Places.{place_found}
use Rattle.private_elim.proofs.taking.Choices.{private_placed}
use Rattle.shared_graph.specs.declared.events.Entry.{Entry}
use Rattle.shared_graph.specs.declared.events.Event.{Event}
use Rattle.shared_graph.specs.declared.events.Event.TheVariants.{Publish, Eliminate, Stop, Revisit, Assign, Widen}
use Rattle.shared_graph.specs.Interfaces.{Summary, interface_of}
use Rattle.shared_graph.specs.Refusals.{cause_of, refusal}
use Rattle.shared_graph.specs.Replays.{after, replay}
use Rattle.shared_graph.specs.States.{State, point_id, start}
use Rattle.shared_graph.proofs.interfaces.SharedPoints.{owner_shared, shared_within}
use Rattle.shared_graph.proofs.states.Passing.{no_stop, eliminate_passes}
use Rattle.elim_journal.specs.Sections.{SectionView}
use Rattle.joined_answer.specs.Joins.{IsLegalSection, ArePrivateOrders, joined_order, eliminated_in, points_eliminated}

-- what holds of all items of all lists
all_flat : (P : ℕ → Type 0) (orders : List (List ℕ)) → ((a : ℕ) → a < length orders → All P (slice_index_or orders a []))
    → All P (flat_map (λ order. order) orders)
all_flat P [] each = All-nil P
all_flat P (first ∷ orders) each =
    All-append P first (flat_map (λ order. order) orders) (each 0 (omega arith)) (all_flat P orders (λ a lt. each (suc a) (omega arith)))

module _ (net : Net) (valid : IsNetwork net) where
  abbrev IsKnown : PointId → Type 0
  IsKnown p = p.0 < point_count net

  private_known : (a p : ℕ) → is_private_in (local_of net a) p ≡ true → p < point_count net
  private_known a p h =
      let k = private_placed (local_of net a) p h in
      let found = place_found (points_of net a) p k.0 k.1 in
      subst (λ q. q < point_count net) found.1 (points_below net a k.0 0 found.0)

  order_known : (a : ℕ) (order : List ℕ) → AllByRecursion (λ p. is_private_in (local_of net a) p ≡ true) order → All (λ p. p < point_count net) order
  order_known a [] h = All-nil (λ p. p < point_count net)
  order_known a (p ∷ order) h = All-cons (λ p. p < point_count net) p order (private_known a p h.0) (order_known a order h.1)

  by_number : (ps : List PointId) → All (λ p. p < point_count net) (map (λ p. p.0) ps) → All IsKnown ps
  by_number [] h = All-nil IsKnown
  by_number (p ∷ ps) h = All-cons IsKnown p ps (h 0 0 (omega arith)) (by_number ps (λ k d lt. h (suc k) d (omega arith)))

  private_points_known : (ps : List PointId) (orders : List (List ℕ)) → ArePrivateOrders net (map (λ p. p.0) ps) orders → All IsKnown ps
  private_points_known ps orders h =
      by_number ps
      (subst (All (λ p. p < point_count net)) (sym h.is)
      (all_flat (λ p. p < point_count net) orders
      (λ a lt. order_known a (slice_index_or orders a []) (h.each a (subst (λ n. a < n) h.one_each lt)).private)))

  -- a point that an entry eliminates is one of the interface
  entry_known : (s : State) (e : Entry) → refusal (interface_of net) s e ≡ None → All IsKnown (points_eliminated e.event)
  entry_known s e legal = go e.event (no_stop (interface_of net) s e legal).1 where
    go : (event : Event) → cause_of (interface_of net) s e.by event ≡ None → All IsKnown (points_eliminated event)
    go (Publish a) h = All-nil IsKnown
    go (Eliminate k) h =
        let owned = (eliminate_passes (interface_of net) s e.by k.0 h).0 in
        let there = owner_shared net valid k.0 owned.0 owned.1 in
        All-cons IsKnown k [] (shared_within net valid k.0 there.2) (All-nil IsKnown)
    go (Stop k i) h = All-nil IsKnown
    go (Revisit k) h = All-nil IsKnown
    go (Assign k value) h = All-nil IsKnown
    go (Widen k end) h = All-nil IsKnown

  eliminated_known : (summaries : List Summary) (es : List Entry) (s last : State) → replay (interface_of net) summaries s es ≡ Some last
      → All IsKnown (eliminated_in es)
  eliminated_known summaries [] s last h = All-nil IsKnown
  eliminated_known summaries (e ∷ es) s last h =
      elim (refusal (interface_of net) s e) as (λ o. refusal (interface_of net) s e ≡ o
      → (if is_some o then None else replay (interface_of net) summaries (after (interface_of net) summaries s e.event) es) ≡ Some last
      → All IsKnown (eliminated_in (e ∷ es))) [
        | None ↦ λ legal g. All-append IsKnown (points_eliminated e.event) (eliminated_in es) (entry_known s e legal)
            (eliminated_known summaries es (after (interface_of net) summaries s e.event) last g)
        | Some c ↦ λ legal g. absurd (cc)
      ] refl h

  -- the private points, the shared ones, and z
  joined_known : (section : SectionView) → IsLegalSection net section → All (λ p. p.0 < point_count net) (joined_order section)
  joined_known section legal =
      All-append IsKnown (section.private ++ eliminated_in section.entries) (point_id 0 ∷ [])
      (All-append IsKnown section.private (eliminated_in section.entries)
      (private_points_known section.private legal.orders legal.private)
      (eliminated_known legal.entries.summaries section.entries start legal.entries.state legal.entries.replays))
      (All-cons IsKnown (point_id 0) [] (omega arith) (All-nil IsKnown))

-- the same of what stands for the network and for the order
pub listed_known : (net network given : Net) (section : SectionView) (order listed : List PointId) → IsNetwork network → network ≡ net
    → IsLegalSection net section → given ≡ network → order ≡ joined_order section → listed ≡ order → All (λ p. p.0 < point_count given) listed
listed_known net network given section order listed valid same legal is ordered lists =
    subst (λ n. All (λ (p : PointId). p.0 < point_count n) listed) (sym is)
    (subst (All (λ (p : PointId). p.0 < point_count network)) (sym (lists ∙ ordered))
    (joined_known network valid section (subst (λ n. IsLegalSection n section) (sym same) legal)))
