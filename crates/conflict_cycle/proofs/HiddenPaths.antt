-- A path without direction through hidden points, all but z and the shared ones, between points that are not hidden: it is one external arc, or lies
-- in one agent's own arcs, so its ends are a seen pair where they differ.
--   PathBy, edge-turned, path-turned    a path whose inner points all have a property, and back
--   path-through, path-over             two paths that meet, and a path over more arcs
--   edge_ends, path_ends, own_edge      edges and paths of an agent's own arcs
--   seen_pair                           a path through private points between points that are not private
--   Stretch                             a path through an agent's private points
--   SeenBySome, Piece                   what is between points that are not hidden
--   edge_within, path_contracts         over a network that is valid
use Rattle.std.proofs.Common.{◌≡◌, ◌≢◌, ℕ, ◌<◌, true, false, ◌||◌, nat_eq, List, [], ◌∷◌, length, refl, sym, ap, subst, ◌∙◌, arith}
use Rattle.std.proofs.Common.{⊎_elim, ◌⊎◌, inl, inr}
use Rattle.std.specs.Prelude.{Contains}
use Rattle.std.specs.List.{AllByRecursion}
use Rattle.std.proofs.lemmas.Bool.{cases_eq, false≢true, or_cases}
use Rattle.std.proofs.lemmas.Bool.Decides.{nat_tests}
use Rattle.stn_model.specs.declared.ids.Constraint.{Constraint}
use Rattle.stn_model.specs.Conflicts.{own_arcs, external_arcs}
use Rattle.stn_model.specs.Joined.{HasEdge, IsPath}
use Rattle.stn_model.specs.Kinds.{is_external, is_owned_by, is_own, is_private_of}
use Rattle.stn_model.specs.Net.{Net, arcs_of, point_count}
use Rattle.stn_model.specs.Summaries.{IsSeenPair}
use Rattle.stn_model.specs.Valid.{IsNetwork}
use Rattle.stn_model.proofs.ArcKinds.{arc_kind, kept, owned_by, owner_there, within}
use Rattle.stn_walk.proofs.PrivateArcs.{own_ends, own_from_private, own_listed, own_passes, own_to_private}
use Rattle.meeting_arcs.specs.Meeting.{is_hidden}
use Rattle.meeting_arcs.proofs.HiddenPoints.{hidden_parts, owned_hidden, seen_of}

-- a path without direction whose inner points all have a property
abbrev pub PathBy : (ℕ → Type 0) → List Constraint → ℕ → ℕ → Type 0
PathBy P arcs i j = (inner : List ℕ) × IsPath arcs i j inner × AllByRecursion P inner

-- the direction does not matter
pub edge-turned : (arcs : List Constraint) (i j : ℕ) → HasEdge arcs i j → HasEdge arcs j i
edge-turned arcs i j h = (h.0, h.1, elim h.2 [ inl there ↦ inr there | inr back ↦ inl back ])

-- what is gone so far, turned round, and what is ahead
turned-onto : (P : ℕ → Type 0) (arcs : List Constraint) (i m j : ℕ) (gone ahead : List ℕ) → P m → IsPath arcs m i gone → AllByRecursion P gone
    → IsPath arcs m j ahead → AllByRecursion P ahead → PathBy P arcs j i
turned-onto P arcs i m j gone [] here back was on rest = (m ∷ gone, (edge-turned arcs m j on, back), (here, was))
turned-onto P arcs i m j gone (p ∷ ahead) here back was on rest =
    turned-onto P arcs i p j (m ∷ gone) ahead rest.0 (edge-turned arcs m p on.0, back) (here, was) on.1 rest.1

pub path-turned : (P : ℕ → Type 0) (arcs : List Constraint) (i j : ℕ) → PathBy P arcs i j → PathBy P arcs j i
path-turned P arcs i j ([], path, all) = ([], edge-turned arcs i j path, tt)
path-turned P arcs i j (p ∷ ps, path, all) = turned-onto P arcs i p j [] ps all.0 (edge-turned arcs i p path.0) tt path.1 all.1

-- two paths that meet in a point
pub path-through : (P : ℕ → Type 0) (arcs : List Constraint) (i k j : ℕ) → P k → PathBy P arcs i k → PathBy P arcs k j → PathBy P arcs i j
path-through P arcs i k j here ([], path, all) rest = (k ∷ rest.0, (path, rest.1), (here, rest.2))
path-through P arcs i k j here (p ∷ ps, path, all) rest =
    let on = path-through P arcs p k j here (ps, path.1, all.1) rest in
    (p ∷ on.0, (path.0, on.1), (all.0, on.2))

-- a path over some arcs is one over all arcs that have these, and its points have what follows
edge-over : (arcs more : List Constraint) (i j : ℕ) → ((a : Constraint) → Contains arcs a → Contains more a) → HasEdge arcs i j → HasEdge more i j
edge-over arcs more i j up h = (h.0, up h.0 h.1, h.2)

pub path-over : (P Q : ℕ → Type 0) (arcs more : List Constraint) (i j : ℕ) → ((a : Constraint) → Contains arcs a → Contains more a)
    → ((p : ℕ) → P p → Q p) → (ps : List ℕ) → IsPath arcs i j ps → AllByRecursion P ps → PathBy Q more i j
path-over P Q arcs more i j up each [] path all = ([], edge-over arcs more i j up path, tt)
path-over P Q arcs more i j up each (p ∷ ps) path all =
    let rest = path-over P Q arcs more p j up each ps path.1 all.1 in
    (p ∷ rest.0, (edge-over arcs more i p up path.0, rest.1), (each p all.0, rest.2))

module _ (net : Net) where
  -- the ends of an own arc, in one direction or the other, are z or the agent's
  pub edge_ends : (agent i j : ℕ) → HasEdge (own_arcs net agent) i j
      → ((nat_eq i 0 || is_owned_by net agent i) ≡ true) × ((nat_eq j 0 || is_owned_by net agent j) ≡ true)
  edge_ends agent i j h =
      let P : ℕ → Type 0 = λ p. (nat_eq p 0 || is_owned_by net agent p) ≡ true in
      let ends = own_ends net agent h.0 (own_passes net agent h.0 h.1) in
      elim h.2 [ inl there ↦ (subst P there.0 ends.0, subst P there.1 ends.1) | inr back ↦ (subst P back.1 ends.1, subst P back.0 ends.0) ]

  -- so are those of a path of own arcs
  pub path_ends : (agent i j : ℕ) (ps : List ℕ) → IsPath (own_arcs net agent) i j ps
      → ((nat_eq i 0 || is_owned_by net agent i) ≡ true) × ((nat_eq j 0 || is_owned_by net agent j) ≡ true)
  path_ends agent i j [] h = edge_ends agent i j h
  path_ends agent i j (p ∷ ps) h = ((edge_ends agent i p h.0).0, (path_ends agent p j ps h.1).1)

  -- a hidden end is private
  end_private : (agent p : ℕ) → (nat_eq p 0 || is_owned_by net agent p) ≡ true → is_hidden net p ≡ true → is_private_of net agent p ≡ true
  end_private agent p end hidden =
      elim (or_cases (nat_eq p 0) (is_owned_by net agent p) end) [
        | inl z ↦ (let e : p ≡ 0 = grind (arith, nat_tests) in absurd ((hidden_parts net p hidden).0 e))
        | inr owned ↦ owned_hidden net agent p owned hidden
      ]

  -- so two of its points that are not private are seen where a path of own arcs through its private points leads from one to the other
  shown_end : (agent p : ℕ) → (nat_eq p 0 || is_owned_by net agent p) ≡ true → is_private_of net agent p ≡ false → is_hidden net p ≡ false
  shown_end agent p end shown =
      elim (is_hidden net p) as (λ b. is_hidden net p ≡ b → b ≡ false) [
        | true ↦ λ t. absurd (false≢true (sym shown ∙ end_private agent p end t))
        | false ↦ λ t. refl
      ] refl

  pub seen_pair : (agent i j : ℕ) → i ≢ j → is_private_of net agent i ≡ false → is_private_of net agent j ≡ false
      → PathBy (λ p. is_private_of net agent p ≡ true) (own_arcs net agent) i j → IsSeenPair net agent i j
  seen_pair agent i j apart start end path =
      let ends = path_ends agent i j path.0 path.1 in
      record {
        different = apart;
        from = seen_of net agent i ends.0 (shown_end agent i ends.0 start);
        to = seen_of net agent j ends.1 (shown_end agent j ends.1 end);
        inner = path.0;
        path = path.1;
        privately = path.2;
      }

  -- an arc at a private point is own
  pub own_edge : (agent q p : ℕ) → is_private_of net agent q ≡ true → HasEdge (arcs_of net) q p → HasEdge (own_arcs net agent) q p
  own_edge agent q p private h =
      let a = h.0 in
      let own : is_own net agent a ≡ true = elim h.2 [
        | inl there ↦ own_from_private net agent a h.1 (ap (is_private_of net agent) there.0 ∙ private)
        | inr back ↦ own_to_private net agent a h.1 (ap (is_private_of net agent) back.1 ∙ private)
      ] in
      (a, own_listed net agent a h.1 own, h.2)

-- a path of one agent's own arcs through its private points, to one of them
pub record Stretch (net : Net) (i q : ℕ) : Type 0 where
  pub agent : ℕ
  pub known : agent < length net.agents
  pub inner : List ℕ
  pub path : IsPath (own_arcs net agent) i q inner
  pub privately : AllByRecursion (λ p. is_private_of net agent p ≡ true) inner
  pub end : is_private_of net agent q ≡ true

-- still there, or by a stretch
abbrev Come : Net → ℕ → ℕ → Type 0
Come net i q = (i ≡ q) ⊎ Stretch net i q

-- the same point, an external arc, or a seen pair
abbrev pub SeenBySome : Net → ℕ → ℕ → Type 0
SeenBySome net i j = (agent : ℕ) × (agent < length net.agents) × IsSeenPair net agent i j

abbrev pub Piece : Net → ℕ → ℕ → Type 0
Piece net i j = (i ≡ j) ⊎ (HasEdge (external_arcs net) i j ⊎ SeenBySome net i j)

module _ (net : Net) (valid : IsNetwork net) where
  pub edge_within : (i j : ℕ) → HasEdge (arcs_of net) i j → (i < point_count net) × (j < point_count net)
  edge_within i j h =
      let in_range = within net valid h.0 h.1 in
      let below = λ (p : ℕ). p < point_count net in
      elim h.2 [
        | inl there ↦ (subst below there.0 in_range.starts, subst below there.1 in_range.ends)
        | inr back ↦ (subst below back.1 in_range.ends, subst below back.0 in_range.starts)
      ]

  -- a further step to a hidden point
  step_in : (i q p : ℕ) → Come net i q → HasEdge (arcs_of net) q p → is_hidden net p ≡ true → Stretch net i p
  step_in i q p (inl at) edge hidden =
      let owner = owner_there net valid p (hidden_parts net p hidden).0 (edge_within q p edge).1 in
      let private = owned_hidden net owner.0 p (owned_by net valid p owner.0 owner.2) hidden in
      let own = edge-turned (own_arcs net owner.0) p q (own_edge net owner.0 p q private (edge-turned (arcs_of net) q p edge)) in
      record {
        agent = owner.0;
        known = owner.1;
        inner = [];
        path = subst (λ x. HasEdge (own_arcs net owner.0) x p) (sym at) own;
        privately = tt;
        end = private;
      }
  step_in i q p (inr s) edge hidden =
      let P : ℕ → Type 0 = λ x. is_private_of net s.agent x ≡ true in
      let own = own_edge net s.agent q p s.end edge in
      let on = path-through P (own_arcs net s.agent) i q p s.end (s.inner, s.path, s.privately) ([], own, tt) in
      record {
        agent = s.agent;
        known = s.known;
        inner = on.0;
        path = on.1;
        privately = on.2;
        end = end_private net s.agent p (edge_ends net s.agent q p own).1 hidden;
      }

  -- a path of own arcs between points that are not hidden
  own_piece : (agent i j : ℕ) → agent < length net.agents → is_hidden net i ≡ false → is_hidden net j ≡ false
      → PathBy (λ p. is_private_of net agent p ≡ true) (own_arcs net agent) i j → Piece net i j
  own_piece agent i j known start end path =
      let ends = path_ends net agent i j path.0 path.1 in
      ⊎_elim
      (λ (same : i ≡ j). inl same)
      (λ (apart : i ≢ j). inr (inr (
        agent,
        known,
        record {
          different = apart;
          from = seen_of net agent i ends.0 start;
          to = seen_of net agent j ends.1 end;
          inner = path.0;
          path = path.1;
          privately = path.2;
        },
      )))
      (cases_eq i j)

  -- a last step, to a point that is not hidden
  step_out : (i q p : ℕ) → is_hidden net i ≡ false → Come net i q → HasEdge (arcs_of net) q p → is_hidden net p ≡ false → Piece net i p
  step_out i q p start (inl at) edge end =
      let here : HasEdge (arcs_of net) i p = subst (λ x. HasEdge (arcs_of net) x p) (sym at) edge in
      elim (arc_kind net valid here.0 here.1) [
        | inl external ↦ inr (inl (here.0, kept (is_external net) (arcs_of net) here.0 here.1 external, here.2))
        | inr own ↦ own_piece own.0 i p own.1 start end ([], (here.0, own_listed net own.0 here.0 here.1 own.2, here.2), tt)
      ]
  step_out i q p start (inr s) edge end =
      own_piece s.agent i p s.known start end
      (path-through (λ x. is_private_of net s.agent x ≡ true) (own_arcs net s.agent) i q p s.end (s.inner, s.path, s.privately)
      ([], own_edge net s.agent q p s.end edge, tt))

  -- Where each piece has an arc of another list, a path between points that are not hidden has one over that list, through those of its points that are
  -- not hidden.
  module _ (meeting : List Constraint) (arc_for : (i j : ℕ) → Piece net i j → (i ≡ j) ⊎ HasEdge meeting i j) (P : ℕ → Type 0) where
    abbrev Shown : ℕ → Type 0
    Shown p = P p × (is_hidden net p ≡ false)

    path_on : (i p j : ℕ) → Shown p → (i ≡ p) ⊎ HasEdge meeting i p → (p ≡ j) ⊎ PathBy Shown meeting p j → (i ≡ j) ⊎ PathBy Shown meeting i j
    path_on i p j here (inl e) rest = subst (λ x. (x ≡ j) ⊎ PathBy Shown meeting x j) (sym e) rest
    path_on i p j here (inr edge) (inl e) = inr ([], subst (HasEdge meeting i) e edge, tt)
    path_on i p j here (inr edge) (inr rest) = inr (p ∷ rest.0, (edge, rest.1), (here, rest.2))

    path_cut : (i q j : ℕ) (ps : List ℕ) → is_hidden net i ≡ false → is_hidden net j ≡ false → Come net i q → IsPath (arcs_of net) q j ps
        → AllByRecursion P ps → (i ≡ j) ⊎ PathBy Shown meeting i j
    path_cut i q j [] start end come path all =
        elim (arc_for i j (step_out i q j start come path end)) [ inl e ↦ inl e | inr edge ↦ inr ([], edge, tt) ]
    path_cut i q j (p ∷ ps) start end come path all =
        elim (is_hidden net p) as (λ b. is_hidden net p ≡ b → (i ≡ j) ⊎ PathBy Shown meeting i j) [
          | true ↦ λ t. path_cut i p j ps start end (inr (step_in i q p come path.0 t)) path.1 all.1
          | false ↦ λ t.
              path_on i p j (all.0, t) (arc_for i p (step_out i q p start come path.0 t)) (path_cut p p j ps t end (inl refl) path.1 all.1)
        ] refl

    pub path_contracts : (i j : ℕ) → i ≢ j → is_hidden net i ≡ false → is_hidden net j ≡ false → PathBy P (arcs_of net) i j → PathBy Shown meeting i j
    path_contracts i j apart start end path =
        elim (path_cut i i j path.0 start end (inl refl) path.1 path.2) [ inl e ↦ absurd (apart e) | inr on ↦ on ]
