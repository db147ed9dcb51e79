-- What meeting arcs of a state join, and which horizon arcs are among them.
use Rattle.std.proofs.Common.{zero, suc, ◌≡◌, ◌≢◌, ℕ, ◌<◌, List, [], ◌∷◌, ◌++◌, Bool, true, false, Option, Some, None, ap, sym, ◌∙◌, refl, arith, inl, inr}
use Rattle.std.proofs.Common.{◌⊎◌, map, subst}
use Rattle.std.specs.Prelude.{Contains, ◌==◌, nat_eq, is_some, if◌then◌else◌}
use Rattle.std.specs.Option.{option_eq}
use Rattle.std.proofs.lemmas.Bool.{or_cases}
use Rattle.std.proofs.lemmas.Bool.Decides.{nat_tests}
use Rattle.std.proofs.lemmas.List.Elements.{Contains-append_cases, Contains-append_left, Contains-append_right}
use Rattle.stn_model.specs.declared.ids.Constraint.{Constraint}
use Rattle.stn_model.specs.Net.{horizon_pair}
use Rattle.stn_walk.specs.Eliminations.{is_in}
use Rattle.shared_graph.specs.Interfaces.{InterfaceView, IsInterface, IsEnd, IsFitting, points_of, owner_in, is_listed}
use Rattle.shared_graph.specs.States.{Published, published_in, agent_pairs, summary_arc, agent_arcs, arcs_after}
use Rattle.meeting_arcs.proofs.MeetingLists.{map_contains}

pub owner_eq : (o : Option ℕ) (a : ℕ) → option_eq nat_eq o (Some a) ≡ true → o ≡ Some a
owner_eq None a h = absurd (cc)
owner_eq (Some x) a h = (let e : x ≡ a = grind (arith, nat_tests) in ap Some e)

pub eq_owner : (o : Option ℕ) (a : ℕ) → o ≡ Some a → option_eq nat_eq o (Some a) ≡ true
eq_owner None a h = absurd (cc)
eq_owner (Some x) a h = (let e : x ≡ a = cc in grind (arith, nat_tests))

-- an arc between z and shared points of an agent
abbrev pub IsAgentArc : InterfaceView → ℕ → Constraint → Type 0
IsAgentArc face agent a = IsEnd face agent a.from.0 × IsEnd face agent a.to.0 × (a.from.0 ≢ a.to.0)

-- an arc between z and shared points
abbrev pub IsPlace : InterfaceView → ℕ → Type 0
IsPlace face p = (p ≡ 0) ⊎ (is_listed face p ≡ true)

abbrev pub IsPlaceArc : InterfaceView → Constraint → Type 0
IsPlaceArc face a = IsPlace face a.from.0 × IsPlace face a.to.0 × (a.from.0 ≢ a.to.0)

pub listed_of : (face : InterfaceView) (p a : ℕ) → owner_in face p ≡ Some a → is_listed face p ≡ true
listed_of face p a h = ap (λ o. is_some o) h

pub owner_of_listed : (face : InterfaceView) (p : ℕ) → is_listed face p ≡ true → (a : ℕ) × (owner_in face p ≡ Some a)
owner_of_listed face p h = go (owner_in face p) refl h where
  go : (o : Option ℕ) → owner_in face p ≡ o → is_some o ≡ true → (a : ℕ) × (owner_in face p ≡ Some a)
  go None is g = absurd (cc)
  go (Some a) is g = (a, is)

module _ (face : InterfaceView) (known : IsInterface face) where
  pub not_z : (p a : ℕ) → owner_in face p ≡ Some a → p ≢ 0
  not_z p a h = λ e. absurd (let n : owner_in face p ≡ None = ap (owner_in face) e ∙ known.without_z in cc)

  pub listed_not_z : (p : ℕ) → is_listed face p ≡ true → p ≢ 0
  listed_not_z p h = (let o = owner_of_listed face p h in not_z p o.0 o.1)

  pair_arcs : (agent p : ℕ) (a : Constraint) → owner_in face p ≡ Some agent → Contains (horizon_pair face.horizon p) a → IsAgentArc face agent a
  pair_arcs agent p a owner (zero, lt, is) = subst (IsAgentArc face agent) is (inl refl, inr owner, λ e. not_z p agent owner (sym e))
  pair_arcs agent p a owner (suc zero, lt, is) = subst (IsAgentArc face agent) is (inr owner, inl refl, λ e. not_z p agent owner e)
  pair_arcs agent p a owner (suc (suc k), lt, is) = absurd (omega arith)

  pairs_arcs : (agent : ℕ) (ps : List ℕ) (a : Constraint) → Contains (agent_pairs face agent ps) a → IsAgentArc face agent a
  pairs_arcs agent [] a h = absurd (let low : h.0 < 0 = h.1 in omega arith)
  pairs_arcs agent (p ∷ ps) a h =
      elim (option_eq nat_eq (owner_in face p) (Some agent)) as (λ b. option_eq nat_eq (owner_in face p) (Some agent) ≡ b
      → Contains ((if b then horizon_pair face.horizon p else []) ++ agent_pairs face agent ps) a → IsAgentArc face agent a) [
        | true ↦ λ t g. elim (Contains-append_cases (horizon_pair face.horizon p) (agent_pairs face agent ps) a g) [
          | inl here ↦ pair_arcs agent p a (owner_eq (owner_in face p) agent t) here
          | inr later ↦ pairs_arcs agent ps a later
        ]
        | false ↦ λ t g. pairs_arcs agent ps a g
      ] refl h

  -- what an agent publishes joins z and its shared points
  pub agent_arc : (p : Published) → IsFitting face p.agent p.entries → (a : Constraint) → Contains (agent_arcs face p) a → IsAgentArc face p.agent a
  agent_arc p fits a h =
      elim (Contains-append_cases (agent_pairs face p.agent (points_of face)) (map summary_arc p.entries) a h) [
        | inl pair ↦ pairs_arcs p.agent (points_of face) a pair
        | inr entry ↦ (let e = map_contains summary_arc p.entries a entry in let f = fits e.0 e.1 in subst (IsAgentArc face p.agent) (sym e.2) (f.0, f.1, f.2))
      ]

  pub place_of_end : (agent p : ℕ) → IsEnd face agent p → IsPlace face p
  place_of_end agent p (inl z) = inl z
  place_of_end agent p (inr owner) = inr (listed_of face p agent owner)

  -- meeting arcs join different points, each z or shared
  pub meeting_ends : (ps : List Published) → ((p : Published) → Contains ps p → IsFitting face p.agent p.entries) → (a : Constraint)
      → Contains (arcs_after face ps) a → IsPlaceArc face a
  meeting_ends [] fits a h = (inr (known.starts a h), inr (known.ends a h), known.different a h)
  meeting_ends (p ∷ ps) fits a h =
      elim (Contains-append_cases (arcs_after face ps) (agent_arcs face p) a h) [
        | inl old ↦ meeting_ends ps (λ q there. fits q (suc there.0, omega (arith, there.1), there.2)) a old
        | inr new ↦ (let e = agent_arc p (fits p (0, omega arith, refl)) a new in (place_of_end p.agent a.from.0 e.0, place_of_end p.agent a.to.0 e.1, e.2))
      ]

-- the two horizon arcs of a shared point of a published agent are meeting arcs
pairs_have : (face : InterfaceView) (agent k : ℕ) (ps : List ℕ) (a : Constraint) → owner_in face k ≡ Some agent → is_in ps k ≡ true
    → Contains (horizon_pair face.horizon k) a
    → Contains (agent_pairs face agent ps) a
pairs_have face agent k [] a owner in_list h = absurd (cc)
pairs_have face agent k (p ∷ ps) a owner in_list h =
    elim (or_cases (is_in ps k) (k == p) in_list) [
      | inl later ↦ Contains-append_right (if option_eq nat_eq (owner_in face p) (Some agent) then horizon_pair face.horizon p else [])
          (agent_pairs face agent ps) a (pairs_have face agent k ps a owner later h)
      | inr here ↦
          (let e : k ≡ p = grind (arith, nat_tests) in
          let test : option_eq nat_eq (owner_in face p) (Some agent) ≡ true = eq_owner (owner_in face p) agent (ap (owner_in face) (sym e) ∙ owner) in
          let same : Contains (horizon_pair face.horizon p) a = subst (λ q. Contains (horizon_pair face.horizon q) a) e h in
          Contains-append_left (if option_eq nat_eq (owner_in face p) (Some agent) then horizon_pair face.horizon p else []) (agent_pairs face agent ps) a
          (subst (λ (b : Bool). Contains (if b then horizon_pair face.horizon p else []) a) (sym test) same))
    ]

pub pair_meets : (face : InterfaceView) (agent k : ℕ) (ps : List Published) (a : Constraint) → owner_in face k ≡ Some agent → is_in (points_of face) k ≡ true
    → published_in ps agent ≡ true
    → Contains (horizon_pair face.horizon k) a → Contains (arcs_after face ps) a
pair_meets face agent k [] a owner in_list done h = absurd (cc)
pair_meets face agent k (p ∷ ps) a owner in_list done h =
    elim (or_cases (published_in ps agent) (agent == p.agent) done) [
      | inl old ↦ Contains-append_left (arcs_after face ps) (agent_arcs face p) a (pair_meets face agent k ps a owner in_list old h)
      | inr new ↦
          (let e : agent ≡ p.agent = grind (arith, nat_tests) in
          let own : owner_in face k ≡ Some p.agent = owner ∙ ap (λ x. Some x) e in
          Contains-append_right (arcs_after face ps) (agent_arcs face p) a
          (Contains-append_left (agent_pairs face p.agent (points_of face)) (map summary_arc p.entries) a
          (pairs_have face p.agent k (points_of face) a own in_list h)))
    ]
