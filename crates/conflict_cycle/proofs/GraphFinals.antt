-- A graph that stands for a network, in which all is eliminated and revisited: which of its points have final bounds, and that these are the least
-- ones: seen_meets, final_parts, held, all, whole, judged, consistent, visited_seen, order_shared, joined_final, final_least, seen_final, summary_found.
use Rattle.std.proofs.Common.{◌≡◌, ℕ, ◌<◌, [], Bool, true, false, ◌&&◌, ◌||◌, not, nat_eq, Option, Some, None, IfSome, length, map}
use Rattle.std.proofs.Common.{ap, sym, ◌∙◌, refl, arith, subst, inl, inr, if◌then◌else◌}
use Rattle.std.specs.Prelude.{◌==◌, ◌≤◌, ℤ, nat_abs, is_some}
use Rattle.std.proofs.lemmas.Bool.{and_parts, or_cases, ne_eqb}
use Rattle.std.proofs.Math.Bool.{or-true}
use Rattle.std.proofs.lemmas.Bool.Decides.{nat_tests}
use Rattle.stn_model.specs.Joined.{HasEdge}
use Rattle.stn_model.specs.Kinds.{is_owned_by, is_shared}
use Rattle.stn_model.specs.Net.{Net, arcs_of, point_count}
use Rattle.stn_model.specs.Schedules.{IsConsistent, IsLeastBound}
use Rattle.stn_model.specs.Summaries.{is_seen, IsSeenPair, IsEntryWeight, IsSummary}
use Rattle.stn_model.specs.Valid.{IsNetwork}
use Rattle.stn_walk.specs.Eliminations.{is_in, before_both}
use Rattle.stn_walk.specs.Joins.{joined_of}
use Rattle.stn_walk.proofs.Joins.{joined-from_path}
use Rattle.meeting_arcs.specs.Meeting.{entry_arc, meets, IsMeeting}
use Rattle.shared_graph.specs.Histories.{SharedView}
use Rattle.shared_graph.specs.Interfaces.{InterfaceView, interface_of, is_listed}
use Rattle.shared_graph.specs.declared.events.Phase.TheVariants.{Order, Reverse}
use Rattle.shared_graph.specs.Journals.{IsDone, StandsFor, IsVerdictOn}
use Rattle.shared_graph.specs.Replays.{plain_entries}
use Rattle.shared_graph.specs.States.{State, is_revisited, meeting_of}
use Rattle.shared_graph.specs.Together.{HoldsTogether, IsAllPublished, IsWhole}
use Rattle.elim_step.specs.Summaries.{entry_of, entry_in}
use Rattle.private_elim.specs.Locals.{LocalView, local_of}
use Rattle.private_elim.specs.ReducedViews.{ReducedView, IsReduced}
use Rattle.private_elim.proofs.summary.EntryLookups.{found_holds}
use Rattle.stn_model.specs.Limits.{greatest_walk}
use Rattle.conflict_cycle.specs.Parts.{AreFound}
use Rattle.conflict_cycle.proofs.LeastBounds.{least_light}
use Rattle.shared_graph.specs.Weights.{final, final_weight, is_joined}
use Rattle.shared_graph.proofs.graphs.Histories.{verdict}
use Rattle.shared_graph.proofs.interfaces.SharedPoints.{owner_shared, shared_within, listed_is_shared, shared_listed_in, meets_shared}
use Rattle.shared_graph.proofs.networks.Networks.{state_meeting}
use Rattle.shared_graph.proofs.states.Listed.{listed_replay, start_listed}

-- where a final bound is there, its points are joined and revisited
pub final_parts : (face : InterfaceView) (s : State) (i j : ℕ) (b : ℤ) → final face s i j ≡ Some b
    → (is_joined face s i j ≡ true) × (is_revisited s i ≡ true) × (is_revisited s j ≡ true)
final_parts face s i j b h = go (is_joined face s i j) (is_revisited s i) (is_revisited s j) h where
  go : (x y z : Bool) → (if x && y && z then final_weight face s i j else None) ≡ Some b → (x ≡ true) × (y ≡ true) × (z ≡ true)
  go true true true g = (refl, refl, refl)
  go true true false g = absurd (cc)
  go true false z g = absurd (cc)
  go false y z g = absurd (cc)

module _ (net : Net) (valid : IsNetwork net) where
  -- a point that an agent sees is one that others see
  pub seen_meets : (a p : ℕ) → is_seen net a p ≡ true → meets net p ≡ true
  seen_meets a p h = elim (or_cases (nat_eq p 0) (is_owned_by net a p && is_shared net p) h) [
    | inl z ↦ ap (λ b. b || is_shared net p) z
    | inr both ↦ meets_shared net valid p (and_parts (is_owned_by net a p) (is_shared net p) both).1
  ]

  seen_within : (a p : ℕ) → is_seen net a p ≡ true → p < point_count net
  seen_within a p h = elim (or_cases (nat_eq p 0) (is_owned_by net a p && is_shared net p) h) [
    | inl z ↦ (let e : p ≡ 0 = grind (arith, nat_tests) in omega arith)
    | inr both ↦ shared_within net valid p (and_parts (is_owned_by net a p) (is_shared net p) both).1
  ]

module _ (net : Net) (v : SharedView) (stands : StandsFor net v) (ordered : IsDone v.face v.state Order) (revisited : IsDone v.face v.state Reverse)
    (together : HoldsTogether v.face v.state) where
  abbrev s : State
  s = v.state

  valid : IsNetwork net
  valid = stands.network

  pub held : HoldsTogether (interface_of net) s
  held = subst (λ f. HoldsTogether f s) stands.face together

  pub all : IsAllPublished (interface_of net) s
  all = subst (λ f. IsAllPublished f s) stands.face ordered.0

  pub whole : IsWhole (interface_of net) s
  whole = subst (λ f. IsWhole f s) stands.face ordered.1

  pub judged : IsVerdictOn net v
  judged = verdict v net stands.summaries valid stands.face stands.right stands.replays

  pub consistent : IsConsistent (point_count net) (arcs_of net)
  consistent = judged.whole ordered.0 ordered.1

  meeting : IsMeeting net (map plain_entries stands.summaries) (meeting_of (interface_of net) s)
  meeting =
      state_meeting net valid stands.summaries stands.right s
      (listed_replay (interface_of net) stands.summaries v.journal _ s (start_listed (interface_of net) stands.summaries)
      stands.replays) all

  seen_visited : (p : ℕ) → meets net p ≡ true → is_revisited s p ≡ true
  seen_visited p h = elim (or_cases (nat_eq p 0) (is_shared net p) h) [
    | inl z ↦ (let e : (p == 0) ≡ true = grind (arith, nat_tests) in ap (λ b. is_in s.revisited p || b) e ∙ or-true (is_in s.revisited p))
    | inr shared ↦
        (let listed : is_listed v.face p ≡ true = subst (λ f. is_listed f p ≡ true) (sym stands.face) (shared_listed_in net valid p shared) in
        ap (λ b. b || (p == 0)) (revisited p listed))
  ]

  pub visited_seen : (p : ℕ) → is_revisited s p ≡ true → meets net p ≡ true
  visited_seen p h = elim (or_cases (is_in s.revisited p) (p == 0) h) [
    | inl there ↦ meets_shared net valid p (listed_is_shared net valid p (held.revisits p there).listed)
    | inr z ↦ (let e : nat_eq p 0 ≡ true = grind (arith, nat_tests) in ap (λ b. b || is_shared net p) e)
  ]

  pub order_shared : (p : ℕ) → is_in s.order p ≡ true → is_shared net p ≡ true
  order_shared p h = (let own = held.owned p h in (owner_shared net valid p own.0 own.1).2)

  -- points that others see and that are joined in the graph have a final bound
  pub joined_final : (i j : ℕ) → meets net i ≡ true → meets net j ≡ true → is_joined (interface_of net) s i j ≡ true
      → (b : ℤ) × (final v.face s i j ≡ Some b)
  joined_final i j one two joined =
      let there = held.finals i j joined (seen_visited i one) (seen_visited j two) in
      (there.0, subst (λ f. final f s i j ≡ Some there.0) (sym stands.face) there.1)

  -- which is the least
  pub final_least : (i j : ℕ) (b : ℤ) → final v.face s i j ≡ Some b → IsLeastBound (point_count net) (arcs_of net) i j b
  final_least i j b is = subst (λ (o : Option ℤ). IfSome o (λ b. IsLeastBound (point_count net) (arcs_of net) i j b)) is (judged.finals i j)

  -- a pair of an agent's summary is joined in the graph
  seen_joined : (a i j : ℕ) → a < length net.agents → IsSeenPair net a i j → is_joined (interface_of net) s i j ≡ true
  seen_joined a i j low pair =
      let right = stands.right in
      let entry = (right.each a low).whole i j pair in
      let many = right.one_each in
      let edge : HasEdge (meeting_of (interface_of net) s) i j =
      (entry_arc (record { from = i; to = j; weight = entry.0 }), meeting.entries a _ (omega arith) entry.1, inl (refl, refl)) in
      let joined : joined_of (meeting_of (interface_of net) s) (before_both s.order i j) i j ≡ true =
      joined-from_path (meeting_of (interface_of net) s) (before_both s.order i j) i j ([], edge, tt) in
      let apart : (i == j) ≡ false = ne_eqb i j pair.different in
      (λ t. not (apart t) && joined t)

  -- so it has a final bound, the least one
  pub seen_final : (a i j : ℕ) → a < length net.agents → IsSeenPair net a i j
      → (b : ℤ) × (final v.face s i j ≡ Some b) × IsLeastBound (point_count net) (arcs_of net) i j b
  seen_final a i j low pair =
      let b = joined_final i j (seen_meets net valid a i pair.from) (seen_meets net valid a j pair.to) (seen_joined a i j low pair) in
      (b.0, b.1, final_least i j b.0 b.1)

  -- the pairs of an agent's summary have final bounds
  pub summary_found : (a : ℕ) (r : ReducedView) → r.local ≡ local_of net a → a < length net.agents → IsReduced r.local r.order r.summary
      → AreFound v.face s r.summary
  summary_found a r local low known i j there = go (entry_in r.summary i j) refl there where
    agent : r.local.agent ≡ a
    agent = ap (λ (l : LocalView). l.agent) local

    sums : IsSummary net r.local.agent (map entry_of r.summary)
    sums = known.sums_up net valid (local ∙ ap (local_of net) (sym agent))

    go : (o : Option ℤ) → entry_in r.summary i j ≡ o → is_some o ≡ true → (b : ℤ) × (final v.face s i j ≡ Some b) × (nat_abs b ≤ greatest_walk)
    go None is some = absurd (cc)
    go (Some w) is some =
        let pair : IsSeenPair net r.local.agent i j =
        (found_holds (λ e. IsSeenPair net r.local.agent e.from e.to × IsEntryWeight net r.local.agent e.from e.to e.weight)
        r.summary i j w sums.weights is).0 in
        let bound = seen_final a i j low (subst (λ k. IsSeenPair net k i j) agent pair) in
        let i_in = seen_within net valid r.local.agent i pair.from in
        let j_in = seen_within net valid r.local.agent j pair.to in
        (bound.0, bound.1, least_light net valid i j i_in j_in bound.0 bound.2)
