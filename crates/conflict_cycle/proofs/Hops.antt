-- Through which later neighbour a least bound came: in an agent's part, and among the points that others see.
--   forward_joined                   points with a forward weight are joined
--   private_leaves, private_arrives  a bound of an agent's back sweep, from the one of the two points that comes first
--   private_hop                      either way
--   shared_before                    what comes before what among the points that others see
--   shared_hop                       a final bound of the shared graph
--   hop_told, final_there            what is read of the back sweeps of the two points' owners
use Rattle.std.proofs.Common.{◌≡◌, ◌≢◌, ℕ, List, Bool, true, false, ◌||◌, not, Option, Some, None, ap, sym, ◌∙◌, refl, arith, subst, inl, inr, if◌then◌else◌}
use Rattle.std.specs.Prelude.{ℤ, Contains, pos, ◌+ℤ◌, ◌==◌, slice_get, is_some, reverse, IfSome}
use Rattle.std.proofs.lemmas.Bool.{and_parts, false≢true}
use Rattle.std.proofs.lemmas.Bool.Decides.{nat_tests}
use Rattle.std.proofs.lemmas.List.{reverse-reverse}
use Rattle.stn_model.specs.declared.ids.AgentId.{AgentId}
use Rattle.stn_model.specs.declared.ids.Constraint.{Constraint}
use Rattle.stn_model.specs.Conflicts.{own_arcs}
use Rattle.stn_model.specs.Joined.{ComesBefore, IsJoined}
use Rattle.stn_model.specs.Kinds.{is_private_of}
use Rattle.stn_model.specs.Net.{Net, arcs_of, owner_of, point_count}
use Rattle.stn_model.specs.Schedules.{IsLeastBound}
use Rattle.stn_model.specs.Summaries.{IsSeenPair}
use Rattle.stn_walk.specs.Eliminations.{is_in, before_both}
use Rattle.stn_walk.proofs.Joins.{joined-from_walk, order-from_joined, is_in-reverse, before_both-from_order}
use Rattle.meeting_arcs.specs.Meeting.{meets}
use Rattle.meeting_arcs.proofs.Agreements.{shown}
use Rattle.elim_step.specs.declared.summary.SummaryEntry.{SummaryEntry}
use Rattle.elim_step.specs.Summaries.{entry_in}
use Rattle.private_elim.specs.Backs.{BoundsView, bound_between}
use Rattle.private_elim.specs.Locals.{arcs_in, is_private_in}
use Rattle.private_elim.specs.ReducedViews.{ReducedView}
use Rattle.private_elim.specs.Throughs.{IsForwardWeight, through_between, final_between, rest_between, Leaves as LeavesIn, Arrives as ArrivesIn}
use Rattle.private_elim.proofs.summary.EntryLookups.{found_some}
use Rattle.shared_graph.specs.States.{State}
use Rattle.shared_graph.specs.Together.{HoldsTogether}
use Rattle.shared_graph.specs.Weights.{final, is_joined, is_later, rest_from, rest_to}
use Rattle.shared_graph.proofs.interfaces.SharedPoints.{meets_shared}
use Rattle.shared_graph.specs.Throughs.{CameThrough as CameByGraph, Leaves as LeavesGraph, Arrives as ArrivesGraph}
use Rattle.conflict_cycle.specs.Edges.{IsLeft, Leaves, Arrives, IsHop, whole_order}
use Rattle.conflict_cycle.specs.Parts.{PartsView, BelongsTo, IsParts}
use Rattle.conflict_cycle.proofs.Fills.{joined_over, not_before}
use Rattle.conflict_cycle.proofs.GraphFinals.{final_parts, visited_seen}
use Rattle.conflict_cycle.proofs.HiddenPaths.{path-over, seen_pair}
use Rattle.conflict_cycle.proofs.LaidOrders.{all_private, before-shared}
use Rattle.conflict_cycle.proofs.LaidParts.{part_first}
use Rattle.conflict_cycle.proofs.PartBounds as bounds
use Rattle.conflict_cycle.proofs.PartLists.{orders}
use Rattle.conflict_cycle.proofs.PrivatePairs.{joined_turned, order_private, part_arcs, part_private, private_before}
use Rattle.conflict_cycle.proofs.SharedPairs.{meets_laid, shown_away}

-- points with a forward weight are joined
pub forward_joined : (r : ReducedView) (i j : ℕ) (w : ℤ) → IsForwardWeight r i j w → IsJoined (arcs_in r.local) r.order i j
forward_joined r i j w h =
    let walk = h.2.least.0 in
    order-from_joined (arcs_in r.local) r.order i j h.1
    (joined-from_walk (arcs_in r.local) (before_both (reverse r.order) i j) i j walk.0 walk.1)

-- the number of a point that is there
some_same : (o : Option ℕ) (m n : ℕ) → o ≡ Some m → o ≡ Some n → m ≡ n
some_same o m n h g = cc

module _ (parts : PartsView) (known : IsParts parts)
    (together : HoldsTogether parts.shared.face parts.shared.state) (net : Net) (belongs : BelongsTo net parts) where
  abbrev s : State
  s = parts.shared.state

  abbrev order : List ℕ
  order = whole_order parts

  least_final : (i j : ℕ) (b : ℤ) → final parts.shared.face s i j ≡ Some b → IsLeastBound (point_count net) (arcs_of net) i j b
  least_final i j b is =
      subst (λ (o : Option ℤ). IfSome o (λ b. IsLeastBound (point_count net) (arcs_of net) i j b)) is
      (bounds.least_told parts known together net belongs i j (final parts.shared.face s i j) refl)

  -- what a final bound leaves
  final_left : (i j : ℕ) (b : ℤ) → final parts.shared.face s i j ≡ Some b → IsLeft net order i j b
  final_left i j b is = inr (bounds.final_joined parts known together net belongs i j b is, least_final i j b is)

  module _ (a : ℕ) (r : ReducedView) (v : BoundsView) (there : slice_get parts.reduced a ≡ Some r) (here : slice_get parts.bounds a ≡ Some v) where
    abbrev entries : List SummaryEntry
    entries = (bounds.back parts known together net belongs a r v there here).finals

    -- the entry of a joined pair that others see is its final bound
    seen_final : (i j : ℕ) → (is_private_in r.local i || is_private_in r.local j) ≡ false → IsJoined (arcs_in r.local) r.order i j
        → entry_in entries i j ≡ final parts.shared.face s i j
    seen_final i j none joined =
        let away = neither (is_private_in r.local i) (is_private_in r.local j) none in
        let agent = bounds.agent parts known together net belongs a r v there here in
        let private = part_private net parts.reduced s belongs.reduced known.reduced a r there in
        let path = path-over (λ p. ComesBefore r.order p i × ComesBefore r.order p j) (λ p. is_private_of net a p ≡ true) (arcs_in r.local) (own_arcs net a)
        i j (λ x h. subst (λ (arcs : List Constraint). Contains arcs x) (part_arcs net parts.reduced s belongs.reduced known.reduced a r there) h)
        (λ p h. order_private net parts.reduced s belongs.reduced known.reduced a r there p (part_first r.order p i h.0))
        joined.inner joined.path joined.before in
        let pair = seen_pair net a i j joined.different (sym (private i) ∙ away.0) (sym (private j) ∙ away.1) path in
        let sums = (known.reduced a r there).sums_up net (bounds.valid parts known together net belongs) (bounds.own parts known together net belongs a r v there here) in
        let entry = sums.whole i j (subst (λ k. IsSeenPair net k i j) (sym agent) pair) in
        (bounds.back parts known together net belongs a r v there here).hold i j (found_some r.summary i j entry.0 entry.1)
      where
        neither : (x y : Bool) → (x || y) ≡ false → (x ≡ false) × (y ≡ false)
        neither true y h = absurd (false≢true (sym h))
        neither false y h = (refl, h)

    -- what is left between two points that an earlier one of the part is joined with
    rest_left : (i j : ℕ) (rest : ℤ) → (i ≢ j → IsJoined (arcs_in r.local) r.order i j) → rest_between r entries v i j ≡ Some rest → IsLeft net order i j rest
    rest_left i j rest joined is = go (i == j) refl is where
      final_way : (b : Bool) → (is_private_in r.local i || is_private_in r.local j) ≡ b → IsJoined (arcs_in r.local) r.order i j
          → (if b then bound_between v i j else entry_in entries i j) ≡ Some rest → IsLeft net order i j rest
      final_way true t pair h = inr (bounds.back_joined parts known together net belongs a r v there here i j rest h)
      final_way false t pair h = final_left i j rest (sym (seen_final i j t pair) ∙ h)

      go : (b : Bool) → (i == j) ≡ b → (if b then Some (pos 0) else final_between r entries v i j) ≡ Some rest → IsLeft net order i j rest
      go true t h = inl (grind (arith, nat_tests), cc)
      go false t h =
          let apart : i ≢ j = grind (arith, nat_tests) in
          final_way (is_private_in r.local i || is_private_in r.local j) refl (joined apart) h

    private_leaves : (i j m : ℕ) → IsJoined (arcs_in r.local) r.order i j → LeavesIn r entries v i j m → (agent : AgentId) → agent.0 ≡ a
        → Leaves net parts i j (Some agent) m
    private_leaves i j m joined h agent is =
        let far = forward_joined r i m h.weight h.forward in
        record {
          first = private_before net parts.reduced s belongs.reduced known.reduced a r there i j joined h.first;
          later = private_before net parts.reduced s belongs.reduced known.reduced a r there i m far h.later;
          weight = h.weight;
          leg = (r, ap (slice_get parts.reduced) is ∙ there, h.forward);
          rest = h.rest;
          left = rest_left m j h.rest (joined_over (arcs_in r.local) r.order i j m joined far h.first h.later) h.onward;
          sum = (bounds.back_joined parts known together net belongs a r v there here i j (h.weight +ℤ h.rest) h.sum).1;
        }

    private_arrives : (i j m : ℕ) → IsJoined (arcs_in r.local) r.order j i → ArrivesIn r entries v i j m → (agent : AgentId) → agent.0 ≡ a
        → Arrives net parts i j (Some agent) m
    private_arrives i j m joined h agent is =
        let far = joined_turned (arcs_in r.local) r.order m j (forward_joined r m j h.weight h.forward) in
        record {
          first = private_before net parts.reduced s belongs.reduced known.reduced a r there j i joined h.first;
          later = private_before net parts.reduced s belongs.reduced known.reduced a r there j m far h.later;
          weight = h.weight;
          leg = (r, ap (slice_get parts.reduced) is ∙ there, h.forward);
          rest = h.rest;
          left = rest_left i m h.rest (joined_over (arcs_in r.local) r.order j m i far joined h.later h.first) h.onward;
          sum = (bounds.back_joined parts known together net belongs a r v there here i j (h.rest +ℤ h.weight) h.sum).1;
        }

  pub private_hop : (agent : AgentId) (v : BoundsView) (i j m : ℕ) → slice_get parts.bounds agent.0 ≡ Some v
      → is_some (bound_between v i j) ≡ true → through_between v i j ≡ Some m → IsHop net parts i j (Some agent) m
  private_hop agent v i j m here some is =
      let part = bounds.part_of parts known together net belongs agent.0 v here in
      let r = part.0 in
      let back = bounds.back parts known together net belongs agent.0 r v part.1 here in
      let pair = back.swept.only i j some in
      let came = back.came i j some in
      let same : came.0 ≡ m = some_same (through_between v i j) came.0 m came.1 is in
      elim came.2 [
        | inl out ↦
            inl (private_leaves agent.0 r v part.1 here i j m pair.joined (subst (LeavesIn r back.finals v i j) same out) agent refl)
        | inr on ↦
            inr (private_arrives agent.0 r v part.1 here i j m (joined_turned (arcs_in r.local) r.order i j pair.joined)
            (subst (ArrivesIn r back.finals v i j) same on) agent refl)
      ]

  -- a point that is not taken before a taken one comes after it in the order of all points
  shared_before : (k p : ℕ) → is_in s.order k ≡ true → meets net p ≡ true → is_later parts.shared.face s k p ≡ true → ComesBefore order k p
  shared_before k p taken seen later =
      let valid = bounds.valid parts known together net belongs in
      let all = bounds.net_all parts known together net belongs in
      let whole = bounds.net_whole parts known together net belongs in
      let journal = bounds.journal_known parts known together net belongs in
      let both = and_parts (is_joined parts.shared.face s k p) (not (is_in (before_both s.order k k) p)) later in
      let joined = and_parts (not (k == p)) _ both.0 in
      let differ = joined.0 in
      let apart : p ≢ k = grind (arith, nat_tests) in
      let shared_k = meets_shared net valid k (bounds.shared_order parts known together net belongs k taken) in
      let away : (q : ℕ) → meets net q ≡ true → is_in (all_private (orders parts.reduced)) q ≡ false =
      λ q h. shown_away net valid parts.reduced belongs.reduced known.reduced s belongs.published parts.shared.journal journal all whole q (shown net q h) in
      let there = meets_laid net valid parts.reduced belongs.reduced known.reduced s belongs.published parts.shared.journal journal all whole p seen in
      let first : ComesBefore (reverse s.order) k p =
      not_before (reverse s.order) p k apart (is_in-reverse s.order k ∙ taken)
      (λ h. false≢true (sym (ap not (sym (ap (λ (es : List ℕ). is_in (before_both es k k) p) (reverse-reverse s.order))
      ∙ before_both-from_order (reverse s.order) k k p (h, h))) ∙ both.1)) in
      (before-shared (orders parts.reduced) (reverse s.order) p (away p seen) there k (away k shared_k)).1 first

  -- the points of a final bound are seen by others
  final_seen : (i j : ℕ) (b : ℤ) → final parts.shared.face s i j ≡ Some b → (meets net i ≡ true) × (meets net j ≡ true)
  final_seen i j b is =
      let visited = final_parts parts.shared.face s i j b is in (
        visited_seen net parts.shared belongs.stands known.ordered known.revisited together i visited.1,
        visited_seen net parts.shared belongs.stands known.ordered known.revisited together j visited.2,
      )

  -- what is left after a later neighbour, and before it
  onward_left : (j m : ℕ) (rest : ℤ) → meets net j ≡ true → rest_from (final parts.shared.face s) j m ≡ Some rest
      → IsLeft net order m j rest × (meets net m ≡ true)
  onward_left j m rest seen is = go (m == j) refl is where
    go : (b : Bool) → (m == j) ≡ b → (if b then Some (pos 0) else final parts.shared.face s m j) ≡ Some rest
        → IsLeft net order m j rest × (meets net m ≡ true)
    go true t h = (let e : m ≡ j = grind (arith, nat_tests) in (inl (e, cc), ap (meets net) e ∙ seen))
    go false t h = (final_left m j rest h, (final_seen m j rest h).0)

  toward_left : (i m : ℕ) (rest : ℤ) → meets net i ≡ true → rest_to (final parts.shared.face s) i m ≡ Some rest
      → IsLeft net order i m rest × (meets net m ≡ true)
  toward_left i m rest seen is = go (m == i) refl is where
    go : (b : Bool) → (m == i) ≡ b → (if b then Some (pos 0) else final parts.shared.face s i m) ≡ Some rest
        → IsLeft net order i m rest × (meets net m ≡ true)
    go true t h = (let e : m ≡ i = grind (arith, nat_tests) in (inl (sym e, cc), ap (meets net) e ∙ seen))
    go false t h = (final_left i m rest h, (final_seen i m rest h).1)

  -- a later neighbour is another point
  later_apart : (k p : ℕ) → is_later parts.shared.face s k p ≡ true → k ≢ p
  later_apart k p later =
      let both = and_parts (is_joined parts.shared.face s k p) (not (is_in (before_both s.order k k) p)) later in
      let differ = (and_parts (not (k == p)) _ both.0).0 in
      grind (arith, nat_tests)

  shared_leaves : (i j m : ℕ) → LeavesGraph parts.shared.face s i j m → Leaves net parts i j None m
  shared_leaves i j m h =
      let seen = final_seen i j (h.weight +ℤ h.rest) h.sum in
      let left = onward_left j m h.rest seen.1 h.onward in
      record {
        first = shared_before i j h.taken seen.1 h.first;
        later = shared_before i m h.taken left.1 h.later;
        weight = h.weight;
        leg = (later_apart i m h.later, h.forward);
        rest = h.rest;
        left = left.0;
        sum = least_final i j (h.weight +ℤ h.rest) h.sum;
      }

  shared_arrives : (i j m : ℕ) → ArrivesGraph parts.shared.face s i j m → Arrives net parts i j None m
  shared_arrives i j m h =
      let seen = final_seen i j (h.rest +ℤ h.weight) h.sum in
      let left = toward_left i m h.rest seen.0 h.onward in
      record {
        first = shared_before j i h.taken seen.0 h.first;
        later = shared_before j m h.taken left.1 h.later;
        weight = h.weight;
        leg = (λ e. later_apart j m h.later (sym e), h.forward);
        rest = h.rest;
        left = left.0;
        sum = least_final i j (h.rest +ℤ h.weight) h.sum;
      }

  pub shared_hop : (i j m : ℕ) → CameByGraph parts.shared.face s i j m → IsHop net parts i j None m
  shared_hop i j m (inl h) = inl (shared_leaves i j m h)
  shared_hop i j m (inr h) = inr (shared_arrives i j m h)

  -- what is read of the back sweeps of the two points' owners
  pub hop_told : (i j m : ℕ) (agent : Option AgentId)
      → (a : AgentId) × (v : BoundsView) × (agent ≡ Some a) × (slice_get parts.bounds a.0 ≡ Some v) × (is_some (bound_between v i j) ≡ true)
      × (through_between v i j ≡ Some m) → IsHop net parts i j agent m
  hop_told i j m agent f = subst (λ o. IsHop net parts i j o m) (sym f.2) (private_hop f.0 f.1 i j m f.3 f.4 f.5)

  -- where they have no bound, a joined pair has a final bound
  pub final_there : (i j : ℕ) → IsJoined (arcs_of net) order i j
      → ((a : ℕ) (v : BoundsView) → owner_of net i ≡ Some a → slice_get parts.bounds a ≡ Some v → bound_between v i j ≡ None)
      → ((a : ℕ) (v : BoundsView) → owner_of net j ≡ Some a → slice_get parts.bounds a ≡ Some v → bound_between v i j ≡ None)
      → is_some (final parts.shared.face s i j) ≡ true
  final_there i j joined first last =
      bounds.joined_bound parts known together net belongs i j
      (λ a v which here. elim which [ inl owned ↦ first a v owned here | inr owned ↦ last a v owned here ]) joined
