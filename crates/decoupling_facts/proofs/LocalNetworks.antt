-- The decoupled network of an agent is consistent: local_consistent. Its walks are cut at z and at the agent's shared points. A piece is one arc
-- of a box, or a walk of own arcs through private points, which has an entry of the summary that is no heavier, and so weighs at least the
-- difference of the times of its ends.
use Rattle.std.proofs.Common.{◌≡◌, ◌≢◌, ℕ, ◌<◌, Bool, true, false, not, ◌&&◌, ◌||◌, nat_eq, List, [], ◌∷◌, ◌++◌, refl, sym, ap, subst, ◌∙◌, arith, inl, inr, ⊎_elim}
use Rattle.std.specs.Prelude.{ℤ, pos, ◌-ℤ◌, ◌≤ℤ◌, Contains}
use Rattle.std.proofs.lemmas.Int.{ints}
use Rattle.std.proofs.lemmas.Bool.{cases_eq, and_parts, false≢true}
use Rattle.std.proofs.lemmas.List.Elements.{Contains-append_cases}
use Rattle.stn_model.specs.declared.ids.Constraint.{Constraint}
use Rattle.stn_model.specs.ArcWalks.{arcs_weight, GoesOn, IsInner, NoNegative}
use Rattle.stn_model.specs.Inner.{NoNegativeWithin}
use Rattle.stn_model.specs.Net.{Net, point_count}
use Rattle.stn_model.specs.Kinds.{is_shared, is_owned_by, is_private_of}
use Rattle.stn_model.specs.Conflicts.{own_arcs}
use Rattle.stn_model.specs.Schedules.{IsConsistent}
use Rattle.stn_model.specs.Summaries.{Entry, IsSummary}
use Rattle.stn_model.specs.Valid.{IsNetwork}
use Rattle.stn_walk.specs.Distances.{HasEndsBelow}
use Rattle.stn_walk.proofs.Distances.{no_negative_consistent, network_ends}
use Rattle.stn_walk.proofs.PrivateArcs.{own_contained, own_passes, own_ends}
use Rattle.meeting_arcs.specs.Meeting.{is_hidden}
use Rattle.meeting_arcs.proofs.OwnConflicts.{sound_no_negative}
use Rattle.meeting_arcs.proofs.SummaryArcs.{own_walk_contracts}
use Rattle.decoupling_facts.specs.Boxes.{Ends}
use Rattle.decoupling_facts.specs.LocalNetworks.{is_boxed, IsBoxArc}
use Rattle.decoupling_facts.proofs.JointTimes.{owned_in}
use Rattle.decoupling_facts.proofs.Pieces.{none_negative}

module _ (net : Net) (agent : ℕ) where
  abbrev passes : ℕ → Bool
  passes = is_private_of net agent

  abbrev own : List Constraint
  own = own_arcs net agent

  -- an end of own arcs is z or the agent's, and not hidden where it is not private
  abbrev IsEnd : ℕ → Type 0
  IsEnd p = (nat_eq p 0 || is_owned_by net agent p) ≡ true

  ends_of : (a : Constraint) → Contains own a → IsEnd a.from.0 × IsEnd a.to.0
  ends_of a c = own_ends net agent a (own_passes net agent a c)

  goes_end : (m j : ℕ) (w : List Constraint) → IsEnd m → GoesOn passes own m j w → IsEnd j
  goes_end m j [] e h = subst (λ (p : ℕ). IsEnd p) h e
  goes_end m j (a ∷ w) e h = goes_end a.to.0 j w (ends_of a h.1).1 h.3

  walk_ends : (i j : ℕ) (w : List Constraint) → IsInner passes own i j w → IsEnd i × IsEnd j
  walk_ends i j [] h = absurd h
  walk_ends i j (a ∷ w) h = (subst (λ (p : ℕ). IsEnd p) h.1 (ends_of a h.0).0, goes_end a.to.0 j w (ends_of a h.0).1 h.2)

  shown_end : (p : ℕ) → IsEnd p → passes p ≡ false → is_hidden net p ≡ false
  shown_end p e out = by_tests (nat_eq p 0) (is_owned_by net agent p) (is_shared net p) e out where
    by_tests : (z o s : Bool) → (z || o) ≡ true → (o && not s) ≡ false → not (z || s) ≡ false
    by_tests true o s e out = refl
    by_tests false true true e out = refl
    by_tests false true false e out = absurd (cc)
    by_tests false false s e out = absurd (cc)

  boxed_shown : (k : ℕ) → is_boxed net agent k ≡ true → passes k ≡ false
  boxed_shown k h =
      let parts = and_parts (is_owned_by net agent k) (is_shared net k) h in
      (λ t. parts.0 t && not (parts.1 t))

  module _ (valid : IsNetwork net) (entries : List Entry) (summary : IsSummary net agent entries)
      (value : ℕ → ℤ) (e : Ends) (first : value 0 ≡ pos 0)
      (keeps : (entry : Entry) → Contains entries entry → (value entry.to -ℤ value entry.from) ≤ℤ entry.weight)
      (within : (k : ℕ) → is_boxed net agent k ≡ true → (e.lo k ≤ℤ value k) × (value k ≤ℤ e.hi k))
      (box : List Constraint) (each : (a : Constraint) → Contains box a → IsBoxArc net agent e a) where
    own_nonnegative : NoNegative passes own
    own_nonnegative = sound_no_negative net agent summary.sound

    -- a walk of own arcs through private points weighs at least the difference of the times
    own_piece : (i j : ℕ) (w : List Constraint) → passes i ≡ false → passes j ≡ false → IsInner passes own i j w → (value j -ℤ value i) ≤ℤ arcs_weight w
    own_piece i j w out_i out_j h =
        ⊎_elim
        (λ (same : i ≡ j).
        let l = own_nonnegative i w (subst (λ (p : ℕ). IsInner passes own i p w) (sym same) h) in
        let v : value i ≡ value j = ap value same in
        omega (arith, ints))
        (λ (apart : i ≢ j).
        let ends = walk_ends i j w h in
        let found = own_walk_contracts net agent entries summary i j w (shown_end i ends.0 out_i) (shown_end j ends.1 out_j) apart h in
        let light = found.2 in
        let holds = keeps (record { from = i; to = j; weight = found.0 }) found.1 in
        omega (arith, ints))
        (cases_eq i j)

    -- the arcs of boxes join z and points that have boxes, and the times keep them
    record BoxFacts (a : Constraint) : Type 0 where
      from : passes a.from.0 ≡ false
      to : passes a.to.0 ≡ false
      light : (value a.to.0 -ℤ value a.from.0) ≤ℤ a.bound

    box_facts : (a : Constraint) → Contains box a → BoxFacts a
    box_facts a c =
        let h = each a c in
        let k = h.0 in
        let boxed = h.1 in
        let low = (within k boxed).0 in
        let high = (within k boxed).1 in
        elim h.2 [
          | inl is ↦ subst (λ x. BoxFacts x) (sym is) (record { from = refl; to = boxed_shown k boxed; light = omega (arith, ints) })
          | inr is ↦ subst (λ x. BoxFacts x) (sym is) (record { from = boxed_shown k boxed; to = refl; light = omega (arith, ints) })
        ]

    -- on from a private point a walk through private points has own arcs alone
    goes_own : (m j : ℕ) (w : List Constraint) → GoesOn passes (own ++ box) m j w → GoesOn passes own m j w
    goes_own m j [] h = h
    goes_own m j (a ∷ w) h =
        elim (Contains-append_cases own box a h.1) [
          | inl c ↦ (h.0, c, h.2, goes_own a.to.0 j w h.3)
          | inr c ↦ absurd (false≢true (sym (box_facts a c).from ∙ ap passes h.2 ∙ h.0))
        ]

    -- a piece
    piece : (i j : ℕ) (w : List Constraint) → passes i ≡ false → passes j ≡ false → IsInner passes (own ++ box) i j w → (value j -ℤ value i) ≤ℤ arcs_weight w
    piece i j [] out_i out_j h = absurd h
    piece i j (a ∷ []) out_i out_j h =
        elim (Contains-append_cases own box a h.0) [
          | inl c ↦ own_piece i j (a ∷ []) out_i out_j (c, h.1, h.2)
          | inr c ↦
              (let k = (box_facts a c).light in
              let from : value a.from.0 ≡ value i = ap value h.1 in
              let to : value a.to.0 ≡ value j = ap value h.2 in
              omega (arith, ints))
        ]
    piece i j (a ∷ b ∷ w) out_i out_j h =
        elim (Contains-append_cases own box a h.0) [
          | inl c ↦ own_piece i j (a ∷ b ∷ w) out_i out_j (c, h.1, goes_own a.to.0 j (b ∷ w) h.2)
          | inr c ↦ absurd (false≢true (sym (box_facts a c).to ∙ h.2.0))
        ]

    inside : NoNegativeWithin passes (own ++ box)
    inside p [] in_p h = absurd h
    inside p (a ∷ w) in_p h =
        elim (Contains-append_cases own box a h.0) [
          | inl c ↦ own_nonnegative p (a ∷ w) (c, h.1, goes_own a.to.0 p w h.2)
          | inr c ↦ absurd (false≢true (sym (box_facts a c).from ∙ ap passes h.1 ∙ in_p))
        ]

    ends_below : HasEndsBelow (point_count net) (own ++ box)
    ends_below a c =
        elim (Contains-append_cases own box a c) [
          | inl d ↦ network_ends net valid a (own_contained net agent a d)
          | inr d ↦
              (let h = each a d in
              let below = (owned_in net agent h.0 (and_parts (is_owned_by net agent h.0) (is_shared net h.0) h.1).0).1 in
              elim h.2 [
                | inl is ↦ subst (λ (x : Constraint). (x.from.0 < point_count net) × (x.to.0 < point_count net)) (sym is) (omega arith, below)
                | inr is ↦ subst (λ (x : Constraint). (x.from.0 < point_count net) × (x.to.0 < point_count net)) (sym is) (below, omega arith)
              ])
        ]

    pub local_consistent : IsConsistent (point_count net) (own ++ box)
    local_consistent = no_negative_consistent (point_count net) (own ++ box) ends_below (none_negative passes (own ++ box) value piece inside)
