-- Two networks that are the same but for the private part of one agent, with the same summary of it in both, have the same least bounds between
-- points that are not private to the agent: arcs_carry, own_carries, pieces_carry, walks_carry, consistency_carries, bounds_carry,
-- least_bounds_carry_over.
use Rattle.std.proofs.Common.{◌≡◌, ◌≢◌, ℕ, ◌-◌, Bool, true, false, ◌&&◌, ◌||◌, not, nat_eq, List, [], ◌∷◌, length, map, Some, None, if◌then◌else◌}
use Rattle.std.proofs.Common.{refl, sym, ap, subst, ◌∙◌, arith, ⊎_elim, ◌⊎◌, inl, inr}
use Rattle.std.specs.Prelude.{ℤ, Contains, slice_get}
use Rattle.std.specs.Option.{option_eq, option_map}
use Rattle.std.proofs.lemmas.Bool.{cases_eq, false≢true}
use Rattle.std.proofs.lemmas.Int.{ints}
use Rattle.std.proofs.lemmas.List.Elements.{All-from_recursion, All-contains}
use Rattle.stn_model.specs.declared.ids.Constraint.{Constraint}
use Rattle.stn_model.specs.Arcs.{arc_at}
use Rattle.stn_model.specs.ArcWalks.{GoesOn, IsArcWalk, IsInner, NoNegative, arcs_weight}
use Rattle.stn_model.specs.Conflicts.{own_arcs}
use Rattle.stn_model.specs.Inner.{NoNegativeWithin}
use Rattle.stn_model.specs.Kinds.{is_external, is_owned_by, is_shared, is_private_of}
use Rattle.stn_model.specs.Net.{Net, arcs_of, point_count}
use Rattle.stn_model.specs.Schedules.{IsConsistent, IsLeastBound}
use Rattle.stn_model.specs.Summaries.{Entry, IsSeenPair, IsEntryWeight, IsSummary}
use Rattle.stn_model.specs.Valid.{IsNetwork}
use Rattle.stn_model.proofs.ArcKinds.{arc_kind, kept}
use Rattle.stn_model.proofs.Bridges.{IsArcWalk-from_walk, arcs_weight-map}
use Rattle.stn_walk.proofs.Distances.{network_ends, no_negative_consistent, consistent_no_negative, least_from_arcs, least_of_arcs}
use Rattle.stn_walk.proofs.Distances.{bound_least_walk, least_walk_bound}
use Rattle.stn_walk.proofs.Exits.{every}
use Rattle.stn_walk.proofs.PrivateArcs.{own_ends, own_contained, own_passes, own_listed, own_from_private, own_to_private}
use Rattle.meeting_arcs.specs.Meeting.{is_hidden}
use Rattle.meeting_arcs.specs.Sides.{HasLightWalk, Contracts}
use Rattle.meeting_arcs.proofs.Contractions.{walk_contracts, none_contracts}
use Rattle.meeting_arcs.proofs.EntryWalks.{entry_walk}
use Rattle.meeting_arcs.proofs.OwnConflicts.{sound_no_negative}
use Rattle.meeting_arcs.proofs.SummaryArcs.{own_walk_contracts}
use Rattle.shared_graph.specs.Laws.{IsSameBut}
use Rattle.shared_graph.proofs.interfaces.SharedPoints.{external_in}
use Rattle.shared_graph.proofs.networks.Isolation.{shared_same}
use Rattle.conflict_cycle.specs.Isolated.{LeastBoundsCarryOver}

-- walks through the private points of one agent
module _ (net : Net) (agent : ℕ) where
  -- an arc that begins at a private point is own, so such walks are walks of own arcs
  goes_own : (m j : ℕ) (w : List Constraint) → GoesOn (is_private_of net agent) (arcs_of net) m j w
      → GoesOn (is_private_of net agent) (own_arcs net agent) m j w
  goes_own m j [] h = h
  goes_own m j (a ∷ w) h =
      let own = own_from_private net agent a h.1 (ap (is_private_of net agent) h.2 ∙ h.0) in
      (h.0, own_listed net agent a h.1 own, h.2, goes_own a.to.0 j w h.3)

  -- so are those of two arcs or more between any points
  inner_own : (i j : ℕ) (a b : Constraint) (w : List Constraint) → IsInner (is_private_of net agent) (arcs_of net) i j (a ∷ b ∷ w)
      → IsInner (is_private_of net agent) (own_arcs net agent) i j (a ∷ b ∷ w)
  inner_own i j a b w h =
      (own_listed net agent a h.0 (own_to_private net agent a h.0 h.2.0), h.1, goes_own a.to.0 j (b ∷ w) h.2)

  -- without an own conflict no closed walk of private points is negative
  private_light : NoNegative (is_private_of net agent) (own_arcs net agent) → NoNegativeWithin (is_private_of net agent) (arcs_of net)
  private_light light = λ p w here h. at p w here h where
    at : NoNegativeWithin (is_private_of net agent) (arcs_of net)
    at p [] here h = absurd h
    at p (a ∷ w) here h =
        let g = goes_own p p (a ∷ w) (here, h.0, h.1, h.2) in
        light p (a ∷ w) (g.1, g.2, g.3)

  -- a walk of own arcs begins and ends at z or points of the agent
  abbrev is_end : ℕ → Bool
  is_end p = nat_eq p 0 || is_owned_by net agent p

  goes_end : (passes : ℕ → Bool) (m j : ℕ) (w : List Constraint) → is_end m ≡ true → GoesOn passes (own_arcs net agent) m j w → is_end j ≡ true
  goes_end passes m j [] here h = ap is_end (sym h) ∙ here
  goes_end passes m j (a ∷ w) here h = goes_end passes a.to.0 j w (own_ends net agent a (own_passes net agent a h.1)).1 h.3

  inner_ends : (passes : ℕ → Bool) (i j : ℕ) (w : List Constraint) → IsInner passes (own_arcs net agent) i j w → (is_end i ≡ true) × (is_end j ≡ true)
  inner_ends passes i j [] h = absurd h
  inner_ends passes i j (a ∷ w) h =
      let ends = own_ends net agent a (own_passes net agent a h.0) in
      (ap is_end (sym h.1) ∙ ends.0, goes_end passes a.to.0 j w ends.1 h.2)

  -- and where they are not private, they are not hidden
  end_shown : (p : ℕ) → is_end p ≡ true → is_private_of net agent p ≡ false → is_hidden net p ≡ false
  end_shown p end out = parts (nat_eq p 0) (is_owned_by net agent p) (is_shared net p) end out where
    parts : (b o s : Bool) → (b || o) ≡ true → (o && not s) ≡ false → not (b || s) ≡ false
    parts true o s e f = refl
    parts false true true e f = refl
    parts false true false e f = absurd (false≢true (sym f))
    parts false false s e f = absurd (false≢true e)

-- from one network to the other
module _ (net other : Net) (agent : ℕ) (valid : IsNetwork net) (valid_other : IsNetwork other) (same : IsSameBut net other agent)
    (entries : List Entry) (right : IsSummary net agent entries) (right_other : IsSummary other agent entries) where
  abbrev private : ℕ → Bool
  private = is_private_of net agent

  -- the same points are private to the agent in both
  private_same : (p : ℕ) → is_private_of net agent p ≡ is_private_of other agent p
  private_same p =
      let places = same.outside.places in
      let shared = shared_same net other same.outside p in
      λ t. option_eq nat_eq (if nat_eq p 0 then None else option_map (λ q. q.owner) (slice_get (places t) (p - 1))) (Some agent) && not (shared t)

  -- an arc that is not own to the agent is one of the other network too
  arcs_carry : (a : Constraint) → Contains (arcs_of net) a → Contains (own_arcs net agent) a ⊎ Contains (arcs_of other) a
  arcs_carry a here =
      elim (arc_kind net valid a here) [
        | inl external ↦
            inr (external_in other valid_other a
            (subst (λ (xs : List Constraint). Contains xs a) same.outside.externals (kept (is_external net) (arcs_of net) a here external)))
        | inr own ↦
            (let listed = own_listed net own.0 a here own.2 in
            ⊎_elim
            (λ (e : own.0 ≡ agent). inl (subst (λ (x : ℕ). Contains (own_arcs net x) a) e listed))
            (λ (ne : own.0 ≢ agent).
            inr (own_contained other own.0 a (subst (λ (xs : List Constraint). Contains xs a) (same.own own.0 ne) listed)))
            (cases_eq own.0 agent))
      ]

  abbrev Carries : ℕ → ℕ → List Constraint → Type 0
  Carries i j w = HasLightWalk (arcs_of other) i j (arcs_weight w)

  -- A walk of own arcs through private points has an entry that is no heavier where its ends differ, and the entry has a walk of the other network,
  -- since it is one of the summary there too. Where its ends are one point, it is not negative, and the empty walk is no heavier.
  own_carries : (i j : ℕ) (w : List Constraint) → private i ≡ false → private j ≡ false → IsInner private (own_arcs net agent) i j w → Carries i j w
  own_carries i j w start end h =
      ⊎_elim
      (λ (e : i ≡ j).
      let closed : IsInner private (own_arcs net agent) i i w = subst (λ (p : ℕ). IsInner private (own_arcs net agent) i p w) (sym e) h in
      let light = sound_no_negative net agent right.sound i w closed in
      let none : Carries i j w = ([], e, omega (arith, ints)) in
      none)
      (λ (apart : i ≢ j).
      let ends = inner_ends net agent private i j w h in
      let found = own_walk_contracts net agent entries right i j w (end_shown net agent i ends.0 start) (end_shown net agent j ends.1 end) apart h in
      let e : Entry = record { from = i; to = j; weight = found.0 } in
      let holds : Entry → Type 0 = λ f. IsSeenPair other agent f.from f.to × IsEntryWeight other agent f.from f.to f.weight in
      let is = All-contains holds entries e (All-from_recursion holds entries right_other.weights) found.1 in
      let there = entry_walk other valid_other agent i j found.0 is.0 is.1 in
      let light = found.2 in
      let weighs = there.2 in
      let one : Carries i j w = (there.0, there.1, omega (arith, ints)) in
      one)
      (cases_eq i j)

  -- a piece is one arc, or a walk of own arcs
  pieces_carry : Contracts private (arcs_of net) (arcs_of other)
  pieces_carry i j [] start end h = absurd h
  pieces_carry i j (a ∷ []) start end h =
      elim (arcs_carry a h.0) [
        | inl own ↦ own_carries i j (a ∷ []) start end (own, h.1, h.2)
        | inr there ↦ (a ∷ [], (refl, there, h.1, h.2), omega (arith, ints))
      ]
  pieces_carry i j (a ∷ b ∷ w) start end h = own_carries i j (a ∷ b ∷ w) start end (inner_own net agent i j a b w h)

  -- so each walk between points that are not private has one of the other network that is no heavier
  walks_carry : (i j : ℕ) (w : List Constraint) → private i ≡ false → private j ≡ false → IsArcWalk (arcs_of net) i j w → Carries i j w
  walks_carry i j [] start end h = ([], h, omega (arith, ints))
  walks_carry i j (a ∷ w) start end h =
      walk_contracts private (arcs_of net) (arcs_of other) pieces_carry (length (a ∷ w)) i j (a ∷ w) (omega arith) start end (h.1, h.2, h.3)

  -- and no closed walk is negative where none of the other network is
  pub consistency_carries : IsConsistent (point_count other) (arcs_of other) → IsConsistent (point_count net) (arcs_of net)
  consistency_carries s =
      no_negative_consistent (point_count net) (arcs_of net) (network_ends net valid)
      (none_contracts private (arcs_of net) (arcs_of other) pieces_carry (private_light net agent (sound_no_negative net agent right.sound))
      (consistent_no_negative (point_count other) (arcs_of other) s every))

-- the same the other way round
turned : (net other : Net) (agent : ℕ) → IsSameBut net other agent → IsSameBut other net agent
turned net other agent same =
    let outside = same.outside in
    record {
      outside =
          record { agents = sym outside.agents; places = sym outside.places; horizon = sym outside.horizon; externals = sym outside.externals };
      own = λ k ne. sym (same.own k ne);
    }

-- A least bound is the weight of a walk that no walk is lighter than. The other network has a walk that is no heavier, and none lighter, since each
-- of its walks has one here that is no heavier.
module _ (net other : Net) (agent : ℕ) (valid : IsNetwork net) (valid_other : IsNetwork other) (same : IsSameBut net other agent)
    (entries : List Entry) (right : IsSummary net agent entries) (right_other : IsSummary other agent entries) where
  bounds_carry : (i j : ℕ) (b : ℤ) → is_private_of net agent i ≡ false → is_private_of net agent j ≡ false
      → IsLeastBound (point_count net) (arcs_of net) i j b → IsLeastBound (point_count other) (arcs_of other) i j b
  bounds_carry i j b start end bound =
      let back = turned net other agent same in
      let hides = private_same net other agent valid valid_other same entries right right_other in
      let least = bound_least_walk (point_count net) (arcs_of net) i j b bound in
      let walk = map (arc_at (arcs_of net)) bound.walk in
      let sum : arcs_weight walk ≡ b = arcs_weight-map (arcs_of net) bound.walk ∙ bound.weighs in
      let there = walks_carry net other agent valid valid_other same entries right right_other i j walk start end
      (IsArcWalk-from_walk (arcs_of net) i j bound.walk bound.is_walk) in
      let light = there.2 in
      least_walk_bound (point_count other) (arcs_of other) (network_ends other valid_other)
      (consistency_carries other net agent valid_other valid back entries right_other right (bound.times, bound.satisfies)) i j b
      (least_from_arcs (arcs_of other) i j b there.0 there.1 (omega (arith, ints))
      (λ v h.
      let here = walks_carry other net agent valid_other valid back entries right_other right i j v (sym (hides i) ∙ start) (sym (hides j) ∙ end) h in
      let low = least_of_arcs (arcs_of net) i j b least here.0 here.1 in
      let lighter = here.2 in
      omega (arith, ints)))

pub least_bounds_carry_over : LeastBoundsCarryOver
least_bounds_carry_over = λ net other agent valid valid_other alike.
    let same = alike.same in
    let back = turned net other agent same in
    let entries = alike.entries in
    let right = alike.sums_up in
    let right_other = alike.sums_up_other in
    let hides = private_same net other agent valid valid_other same entries right right_other in (
      (
        consistency_carries other net agent valid_other valid back entries right_other right,
        consistency_carries net other agent valid valid_other same entries right right_other,
      ),
      λ i j b start end. (
        bounds_carry net other agent valid valid_other same entries right right_other i j b start end,
        bounds_carry other net agent valid_other valid back entries right_other right i j b (sym (hides i) ∙ start) (sym (hides j) ∙ end),
      ),
    )
