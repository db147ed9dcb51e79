-- Meeting arcs expand to walks of the network, and walks of the network contract to walks of meeting arcs: meeting_expands, meeting_contracts,
-- hidden_none_below, and what follows from both.
use Rattle.std.proofs.Common.{◌≡◌, ◌≢◌, ℕ, ◌<◌, ℤ, pos, ◌+ℤ◌, ◌<ℤ◌, ◌++◌, ◌∙◌, ◌⊎◌, Bool, true, false, ◌&&◌, ◌||◌, not, nat_eq, List, [], ◌∷◌, Option, Some}
use Rattle.std.proofs.Common.{length, get_or, refl, sym, ap, subst, arith, ⊎_elim, inl, inr}
use Rattle.std.specs.Prelude.{◌↔◌}
use Rattle.std.specs.List.{Contains, AllByRecursion}
use Rattle.std.proofs.lemmas.Int.{ints}
use Rattle.std.proofs.lemmas.Bool.{cases_eq, false≢true}
use Rattle.std.proofs.lemmas.List.Elements.{All-from_recursion, All-contains}
use Rattle.stn_model.specs.declared.ids.Constraint.{Constraint}
use Rattle.stn_model.specs.Net.{Net, arcs_of, point_count}
use Rattle.stn_model.specs.Valid.{IsNetwork}
use Rattle.stn_model.specs.Kinds.{is_owned_by, is_shared, is_private_of}
use Rattle.stn_model.specs.ArcWalks.{IsArcWalk, IsInner, IsInnerLeast, NoNegative, arcs_weight}
use Rattle.stn_model.specs.Inner.{NoNegativeWithin}
use Rattle.stn_model.specs.Conflicts.{own_arcs}
use Rattle.stn_model.specs.Schedules.{IsConsistent, IsLeastBound}
use Rattle.stn_model.specs.Walks.{IsWalk, IsNegativeCycle, weight}
use Rattle.stn_model.specs.Summaries.{Entry, is_seen, IsSeenPair, IsEntryWeight, IsSummary}
use Rattle.stn_model.proofs.WalkLemmas.{no_schedule}
use Rattle.stn_model.proofs.Bridges.{numbers_of, arcs_weight-map, IsArcWalk-from_inner}
use Rattle.stn_walk.specs.Eliminations.{is_in}
use Rattle.stn_walk.proofs.ArcWalks.{GoesOn-append, arcs_weight-append, arcs_cycle}
use Rattle.stn_walk.proofs.Visits.{wider, at_point}
use Rattle.stn_walk.proofs.Finals.{inner_every}
use Rattle.stn_walk.proofs.Exits.{every}
use Rattle.stn_walk.proofs.Distances.{network_ends, no_negative_consistent, consistent_no_negative, inner_least_bound, bound_inner_least}
use Rattle.meeting_arcs.specs.Sides.{HasWalk, HasLightWalk, Expands, Contracts, NegativeClosed}
use Rattle.meeting_arcs.specs.Meeting.{meets, is_hidden, entry_arc, HasOnlyMeeting, IsMeeting, AreEntries, AreSummaries}
use Rattle.meeting_arcs.proofs.Expansions.{walk_expands, negative_expands, closed_expands}
use Rattle.meeting_arcs.proofs.Contractions.{walk_contracts, negative_contracts, none_contracts, least_contracts, least_expands}
use Rattle.stn_model.proofs.ArcKinds.{within}
use Rattle.meeting_arcs.proofs.OwnConflicts.{sound_no_negative}
use Rattle.meeting_arcs.proofs.Pieces.{piece, hidden_light}
use Rattle.meeting_arcs.proofs.SummaryArcs.{own_walk_contracts}
use Rattle.meeting_arcs.proofs.EntryWalks.{entry_walk}
use Rattle.meeting_arcs.proofs.WholeOrders.{whole_none_below}

-- the entries of summaries
pub entries_of : (net : Net) (summaries : List (List Entry)) → AreSummaries net summaries → AreEntries net summaries
entries_of net summaries s = record { each = λ agent lt. (s.each agent (let many = s.one_each in omega arith)).weights }

-- and of those that are published
pub published_entries : (net : Net) (summaries : List (List Entry))
    → ((agent : ℕ) → agent < length summaries → (get_or summaries agent [] ≡ []) ⊎ IsSummary net agent (get_or summaries agent []))
    → AreEntries net summaries
published_entries net summaries h = record {
  each = λ agent lt. elim (h agent lt) [
    | inl none ↦ subst (AllByRecursion (λ e. IsSeenPair net agent e.from e.to × IsEntryWeight net agent e.from e.to e.weight)) (sym none) tt
    | inr right ↦ right.weights
  ];
}

-- a point that is not hidden
pub shown : (net : Net) (p : ℕ) → meets net p ≡ true → is_hidden net p ≡ false
shown net p h = ap not h

module _ (net : Net) (valid : IsNetwork net) (summaries : List (List Entry)) (meeting : List Constraint) where
  module _ (entries : AreEntries net summaries) (only : HasOnlyMeeting net summaries meeting) where
    -- an arc of the network is itself the walk; an entry has its own
    pub meeting_expands : Expands meeting (arcs_of net)
    meeting_expands a here =
        elim (only a here) [
          | inl seen ↦ (a ∷ [], (refl, seen.listed, refl, refl), omega (arith, ints))
          | inr e ↦
              (let holds : Entry → Type 0 = λ f. IsSeenPair net e.agent f.from f.to × IsEntryWeight net e.agent f.from f.to f.weight in
              let own = get_or summaries e.agent [] in
              let is = All-contains holds own e.entry (All-from_recursion holds own (entries.each e.agent e.known)) e.listed in
              subst (λ (x : Constraint). HasWalk (arcs_of net) x.from.0 x.to.0 x.bound) (sym e.is)
              (entry_walk net valid e.agent e.entry.from e.entry.to e.entry.weight is.0 is.1))
        ]

  module _ (right : AreSummaries net summaries) (is : IsMeeting net summaries meeting) where
    -- without own conflicts no closed walk of an agent's own arcs through private points is negative
    own_light : (agent : ℕ) → agent < length net.agents → NoNegative (is_private_of net agent) (own_arcs net agent)
    own_light agent known = sound_no_negative net agent (right.each agent known).sound

    pub hidden_none_below : NoNegativeWithin (is_hidden net) (arcs_of net)
    hidden_none_below = hidden_light net valid own_light

    -- A piece is an external arc, which is a meeting arc; or an own walk, which has an entry that is no heavier where its ends differ, and is not
    -- negative where they are one point.
    pub meeting_contracts : Contracts (is_hidden net) (arcs_of net) meeting
    meeting_contracts i j w start end h =
        elim (piece net valid i j w h) [
          | inl e ↦
              (e.arc ∷ [], (refl, is.externals e.arc e.listed, e.starts, e.ends), (let whole = ap arcs_weight e.whole in omega (arith, ints)))
          | inr own ↦
              (let known : own.agent < length summaries = (let many = right.one_each in let lt = own.known in omega arith) in
              ⊎_elim
              (λ (same : i ≡ j).
              let closed : IsInner (is_private_of net own.agent) (own_arcs net own.agent) i i w =
              subst (λ (p : ℕ). IsInner (is_private_of net own.agent) (own_arcs net own.agent) i p w) (sym same) own.walk in
              let light = own_light own.agent own.known i w closed in
              let none : HasLightWalk meeting i j (arcs_weight w) = ([], same, omega (arith, ints)) in
              none)
              (λ (apart : i ≢ j).
              let found = own_walk_contracts net own.agent (get_or summaries own.agent []) (right.each own.agent own.known) i j w start end apart own.walk in
              let e : Entry = record { from = i; to = j; weight = found.0 } in
              let light = found.2 in
              let one : HasLightWalk meeting i j (arcs_weight w) =
              (entry_arc e ∷ [], (refl, is.entries own.agent e known found.1, refl, refl), omega (arith, ints)) in
              one)
              (cases_eq i j))
        ]

module _ (net : Net) (valid : IsNetwork net) (summaries : List (List Entry)) (meeting : List Constraint) where
  module _ (entries : AreEntries net summaries) (only : HasOnlyMeeting net summaries meeting) where
    -- a negative closed walk of meeting arcs shows that no schedule satisfies the network
    pub negatives_expand : NegativeClosed meeting
        → NegativeClosed (arcs_of net) × ((cycle : List ℕ) × IsNegativeCycle (arcs_of net) cycle) × (IsConsistent (point_count net) (arcs_of net) → ⊥)
    negatives_expand n =
        let v = negative_expands meeting (arcs_of net) (meeting_expands net valid summaries meeting entries only) n in
        let c = arcs_cycle (arcs_of net) v.start v.walk v.closed v.negative in
        (v, (c.cycle, c.negative), λ s. no_schedule (arcs_of net) (point_count net) c.cycle c.negative s)

    -- two walks there and back that sum below 0 are one
    pub failing_cells : (inner : ℕ → Bool) (p q : ℕ) (a b : ℤ) → IsInnerLeast inner meeting p q (Some a) → IsInnerLeast inner meeting q p (Some b)
        → (a +ℤ b) <ℤ pos 0 → NegativeClosed meeting × (IsConsistent (point_count net) (arcs_of net) → ⊥)
    failing_cells inner p q a b there back below =
        let out = there.0 in
        let home = back.0 in
        let closed = GoesOn-append every meeting p q p out.0 home.0 (IsArcWalk-from_inner meeting inner p q out.0 out.1)
        (IsArcWalk-from_inner meeting inner q p home.0 home.1) in
        let sum = arcs_weight-append out.0 home.0 in
        let one = out.2 in
        let two = home.2 in
        let n : NegativeClosed meeting = record { start = p; walk = out.0 ++ home.0; closed = closed; negative = omega (arith, ints) } in
        (n, (negatives_expand n).2)

    -- the numbers of a walk's arcs
    pub walk_numbers : (i j : ℕ) (w : List Constraint) → IsArcWalk meeting i j w
        → (ns : List ℕ) × IsWalk (arcs_of net) i j ns × (weight (arcs_of net) ns ≡ arcs_weight w)
    walk_numbers i j w h =
        let v = walk_expands meeting (arcs_of net) (meeting_expands net valid summaries meeting entries only) i j w h in
        let ns = numbers_of (arcs_of net) every i j v.0 v.1 in
        (ns.0, ns.1, sym (arcs_weight-map (arcs_of net) ns.0) ∙ ap arcs_weight ns.2 ∙ v.2)

    -- meeting arcs join different points, each z or shared
    seen_meets : (agent p : ℕ) → is_seen net agent p ≡ true → meets net p ≡ true
    seen_meets agent p h = parts (nat_eq p 0) (is_owned_by net agent p) (is_shared net p) h where
      parts : (b o s : Bool) → (b || o && s) ≡ true → (b || s) ≡ true
      parts true o s e = refl
      parts false true s e = e
      parts false false s e = absurd (false≢true e)

    pub meeting_ends : (a : Constraint) → Contains meeting a → (meets net a.from.0 ≡ true) × (meets net a.to.0 ≡ true) × (a.from.0 ≢ a.to.0)
    meeting_ends a here =
        elim (only a here) [
          | inl seen ↦ (seen.starts, seen.ends, (within net valid a seen.listed).different)
          | inr e ↦
              (let holds : Entry → Type 0 = λ f. IsSeenPair net e.agent f.from f.to × IsEntryWeight net e.agent f.from f.to f.weight in
              let own = get_or summaries e.agent [] in
              let pair = (All-contains holds own e.entry (All-from_recursion holds own (entries.each e.agent e.known)) e.listed).0 in
              subst (λ (x : Constraint). (meets net x.from.0 ≡ true) × (meets net x.to.0 ≡ true) × (x.from.0 ≢ x.to.0)) (sym e.is)
              (seen_meets e.agent e.entry.from pair.from, seen_meets e.agent e.entry.to pair.to, pair.different))
        ]

  module _ (right : AreSummaries net summaries) (is : IsMeeting net summaries meeting) where
    abbrev expands : Expands meeting (arcs_of net)
    expands = meeting_expands net valid summaries meeting (entries_of net summaries right) is.only

    abbrev contracts : Contracts (is_hidden net) (arcs_of net) meeting
    contracts = meeting_contracts net valid summaries meeting right is

    -- walks of the network contract
    pub walks_contract : (i j : ℕ) (w : List Constraint) → meets net i ≡ true → meets net j ≡ true → IsArcWalk (arcs_of net) i j w
        → HasLightWalk meeting i j (arcs_weight w)
    walks_contract i j [] start end h = ([], h, omega (arith, ints))
    walks_contract i j (a ∷ w) start end h =
        walk_contracts (is_hidden net) (arcs_of net) meeting contracts (length (a ∷ w)) i j (a ∷ w) (omega arith) (shown net i start) (shown net j end)
        (h.1, h.2, h.3)

    pub negatives_contract : NegativeClosed (arcs_of net) → NegativeClosed meeting
    negatives_contract = negative_contracts (is_hidden net) (arcs_of net) meeting contracts (hidden_none_below net valid summaries meeting right is)

    -- no closed walk of meeting arcs is negative exactly where none of the network is, so exactly where some schedule satisfies it
    pub decides : NoNegative every meeting ↔ IsConsistent (point_count net) (arcs_of net)
    decides = (
      λ none_below. no_negative_consistent (point_count net) (arcs_of net) (network_ends net valid)
          (none_contracts (is_hidden net) (arcs_of net) meeting contracts (hidden_none_below net valid summaries meeting right is) none_below),
      λ s. closed_expands meeting (arcs_of net) expands (consistent_no_negative (point_count net) (arcs_of net) s every),
    )

    -- walks through points of an order are enough once it has all shared points
    pub order_decides : (order : List ℕ) → ((p : ℕ) → meets net p ≡ true → p ≢ 0 → is_in order p ≡ true)
        → NoNegative (is_in order) meeting ↔ IsConsistent (point_count net) (arcs_of net)
    order_decides order whole = (
      λ none_below. decides.0 (whole_none_below meeting order 0 starts none_below),
      λ s. let all = decides.1 s in λ p w h. all p w (inner_every (is_in order) meeting p p w h),
    ) where
      in_order : (p : ℕ) → meets net p ≡ true → is_in (0 ∷ order) p ≡ true
      in_order p h =
          ⊎_elim
          (λ (e : p ≡ 0). subst (λ (q : ℕ). is_in (0 ∷ order) q ≡ true) (sym e) (at_point 0 (is_in order)))
          (λ (ne : p ≢ 0). wider (is_in order) 0 p (whole p h ne))
          (cases_eq p 0)

      starts : (a : Constraint) → Contains meeting a → is_in (0 ∷ order) a.from.0 ≡ true
      starts a here = in_order a.from.0 (meeting_ends (entries_of net summaries right) is.only a here).0

    -- least weights agree, so they are the least bounds
    module _ (i j : ℕ) (start : meets net i ≡ true) (end : meets net j ≡ true) (apart : i ≢ j) where
      pub weights_agree : (o : Option ℤ) → IsInnerLeast every meeting i j o ↔ IsInnerLeast every (arcs_of net) i j o
      weights_agree o = (
        least_contracts (is_hidden net) (arcs_of net) meeting contracts expands i j (shown net i start) (shown net j end) apart o,
        least_expands (is_hidden net) (arcs_of net) meeting contracts expands i j (shown net i start) (shown net j end) apart o,
      )

      pub weights_are_bounds : IsConsistent (point_count net) (arcs_of net) → (b : ℤ)
          → IsInnerLeast every meeting i j (Some b) ↔ IsLeastBound (point_count net) (arcs_of net) i j b
      weights_are_bounds s b = (
        λ least. inner_least_bound (point_count net) (arcs_of net) (network_ends net valid) s i j b apart ((weights_agree (Some b)).0 least),
        λ bound. (weights_agree (Some b)).1 (bound_inner_least (point_count net) (arcs_of net) i j b apart bound),
      )
