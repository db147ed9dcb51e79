-- A walk of a network through hidden points alone is one external arc, or a walk of one agent's own arcs through its private points: piece.
-- Where no agent has an own conflict, no closed walk of hidden points is negative: hidden_light.
use Rattle.std.proofs.Common.{◌≡◌, ℕ, ◌<◌, true, nat_eq, List, [], ◌∷◌, length, refl, ap, subst, ◌∙◌, arith, ◌⊎◌, inl, inr}
use Rattle.std.specs.List.{Contains}
use Rattle.std.proofs.lemmas.Bool.{or_cases}
use Rattle.std.proofs.lemmas.Bool.Decides.{nat_tests}
use Rattle.stn_model.specs.declared.ids.Constraint.{Constraint}
use Rattle.stn_model.specs.Net.{Net, arcs_of, point_count}
use Rattle.stn_model.specs.Valid.{IsNetwork}
use Rattle.stn_model.specs.Kinds.{is_external, is_owned_by, is_own, is_private_of}
use Rattle.stn_model.specs.Conflicts.{own_arcs, external_arcs}
use Rattle.stn_model.specs.ArcWalks.{GoesOn, IsInner, NoNegative}
use Rattle.stn_model.specs.Inner.{NoNegativeWithin}
use Rattle.meeting_arcs.specs.Meeting.{is_hidden}
use Rattle.stn_model.proofs.ArcKinds.{kept, arc_kind, owner_there, owned_by, within}
use Rattle.stn_walk.proofs.PrivateArcs.{own_ends, own_listed, own_from_private, own_to_private}
use Rattle.meeting_arcs.proofs.HiddenPoints.{hidden_parts, private_hidden, owned_hidden}

-- one external arc from i to j
pub record IsExternalArc (net : Net) (i j : ℕ) (w : List Constraint) : Type 0 where
  pub arc : Constraint
  pub listed : Contains (external_arcs net) arc
  pub starts : arc.from.0 ≡ i
  pub ends : arc.to.0 ≡ j
  pub whole : w ≡ arc ∷ []

-- a walk of one agent's own arcs through its private points
pub record IsOwnWalk (net : Net) (i j : ℕ) (w : List Constraint) : Type 0 where
  pub agent : ℕ
  pub known : agent < length net.agents
  pub walk : IsInner (is_private_of net agent) (own_arcs net agent) i j w

module _ (net : Net) (valid : IsNetwork net) where
  -- an own arc to a hidden point ends at a private one
  next_private : (agent : ℕ) (a : Constraint) → is_own net agent a ≡ true → is_hidden net a.to.0 ≡ true → is_private_of net agent a.to.0 ≡ true
  next_private agent a own hidden =
      elim (or_cases (nat_eq a.to.0 0) (is_owned_by net agent a.to.0) (own_ends net agent a own).1) [
        | inl z ↦ (let e : a.to.0 ≡ 0 = grind (arith, nat_tests) in absurd ((hidden_parts net a.to.0 hidden).0 e))
        | inr owned ↦ owned_hidden net agent a.to.0 owned hidden
      ]

  -- from a private point on it is a walk of own arcs
  goes_private : (agent m j : ℕ) (w : List Constraint) → is_private_of net agent m ≡ true → GoesOn (is_hidden net) (arcs_of net) m j w
      → GoesOn (is_private_of net agent) (own_arcs net agent) m j w
  goes_private agent m j [] here h = h
  goes_private agent m j (a ∷ []) here h =
      let own = own_from_private net agent a h.1 (ap (is_private_of net agent) h.2 ∙ here) in
      (here, own_listed net agent a h.1 own, h.2, h.3)
  goes_private agent m j (a ∷ b ∷ w) here h =
      let own = own_from_private net agent a h.1 (ap (is_private_of net agent) h.2 ∙ here) in
      (here, own_listed net agent a h.1 own, h.2, goes_private agent a.to.0 j (b ∷ w) (next_private agent a own h.3.0) h.3)

  inner_private : (agent i j : ℕ) (w : List Constraint) → is_private_of net agent i ≡ true → IsInner (is_hidden net) (arcs_of net) i j w
      → IsInner (is_private_of net agent) (own_arcs net agent) i j w
  inner_private agent i j [] here h = absurd h
  inner_private agent i j (a ∷ w) here h =
      let g = goes_private agent i j (a ∷ w) here (private_hidden net agent i here, h.0, h.1, h.2) in
      (g.1, g.2, g.3)

  -- a hidden point is a private point of some agent
  private_there : (p : ℕ) → p < point_count net → is_hidden net p ≡ true → (agent : ℕ) × (agent < length net.agents) × (is_private_of net agent p ≡ true)
  private_there p lt hidden =
      let owner = owner_there net valid p (hidden_parts net p hidden).0 lt in
      (owner.0, owner.1, owned_hidden net owner.0 p (owned_by net valid p owner.0 owner.2) hidden)

  -- A single arc is external or own. A longer walk has a first hidden point, which is private to some agent; an arc that ends or begins at
  -- a private point is own to its agent, so the walk stays with this agent to its end.
  pub piece : (i j : ℕ) (w : List Constraint) → IsInner (is_hidden net) (arcs_of net) i j w → IsExternalArc net i j w ⊎ IsOwnWalk net i j w
  piece i j [] h = absurd h
  piece i j (a ∷ []) h =
      elim (arc_kind net valid a h.0) [
        | inl external ↦ inl (record { arc = a; listed = kept (is_external net) (arcs_of net) a h.0 external; starts = h.1; ends = h.2; whole = refl })
        | inr own ↦ inr (record { agent = own.0; known = own.1; walk = (own_listed net own.0 a h.0 own.2, h.1, h.2) })
      ]
  piece i j (a ∷ b ∷ w) h =
      let p = private_there a.to.0 (within net valid a h.0).ends h.2.0 in
      inr (record {
        agent = p.0;
        known = p.1;
        walk = (own_listed net p.0 a h.0 (own_to_private net p.0 a h.0 p.2), h.1, goes_private p.0 a.to.0 j (b ∷ w) p.2 h.2);
      })

  -- a closed walk of hidden points is one of the own arcs of the agent of its first point
  pub hidden_light : ((agent : ℕ) → agent < length net.agents → NoNegative (is_private_of net agent) (own_arcs net agent))
      → NoNegativeWithin (is_hidden net) (arcs_of net)
  hidden_light none_below = λ p w hidden h. at p w hidden h where
    at : NoNegativeWithin (is_hidden net) (arcs_of net)
    at p [] hidden h = absurd h
    at p (a ∷ w) hidden h =
        let low : p < point_count net = subst (λ (q : ℕ). q < point_count net) h.1 (within net valid a h.0).starts in
        let owner = private_there p low hidden in
        none_below owner.0 owner.1 p (a ∷ w) (inner_private owner.0 p p (a ∷ w) owner.2 h)
