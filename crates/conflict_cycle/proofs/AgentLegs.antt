-- The legs that an agent published are entries of its summary or horizon arcs: HasEachOnce, entry_found, found_is, found_not, IsHorizonOf, IsHorizonArc,
-- agent_leg, horizon_leg, horizon_walk.
use Rattle.std.proofs.Common.{zero, suc, ◌≡◌, ◌≢◌, ℕ, ◌+◌, ◌-◌, ◌*◌, ◌/◌, ◌<◌, ◌≤◌, List, [], ◌∷◌, ◌++◌, true, false, ◌&&◌, map, length, get_or}
use Rattle.std.proofs.Common.{if◌then◌else◌, Option, Some, None, ap, sym, ◌∙◌, refl, arith, subst, ◌⊎◌, inl, inr}
use Rattle.std.specs.Prelude.{ℤ, ◌==◌, Contains, nat_eq}
use Rattle.std.specs.List.{AllPairs}
use Rattle.std.specs.Option.{option_eq}
use Rattle.std.specs.Ordering.{int_eq}
use Rattle.std.proofs.lemmas.Bool.{false≢true}
use Rattle.std.proofs.lemmas.Bool.Decides.{Decides-int_eq}
use Rattle.std.proofs.lemmas.Cmp.{int_eq_equiv}
use Rattle.std.proofs.lemmas.Bool.Decides.{nat_tests}
use Rattle.std.proofs.lemmas.List.{get_or-map, length-map}
use Rattle.std.proofs.lemmas.List.Elements.{Contains-append_cases}
use Rattle.stn_model.specs.declared.ids.Constraint.{Constraint}
use Rattle.stn_model.specs.Arcs.{arc_at}
use Rattle.stn_model.specs.Net.{Net, arcs_of, horizon_pair}
use Rattle.stn_model.specs.Summaries.{Entry}
use Rattle.stn_model.specs.Valid.{IsNetwork}
use Rattle.stn_model.proofs.ArcLemmas.{upper_arc, lower_arc, arc_even, arc_odd}
use Rattle.stn_model.proofs.NetLemmas.{length-arcs_of}
use Rattle.elim_step.specs.declared.summary.SummaryEntry.{SummaryEntry}
use Rattle.elim_step.specs.Summaries.{entry_of, entry_in}
use Rattle.shared_graph.specs.declared.unfold.Leg.{Leg}
use Rattle.shared_graph.specs.Interfaces.{Summary, interface_of, owner_in, points_of}
use Rattle.shared_graph.specs.States.{agent_pairs, agent_arcs, summary_arc}
use Rattle.shared_graph.proofs.interfaces.SharedPoints.{owner_shared}
use Rattle.shared_graph.proofs.states.Meetings.{owner_eq}
use Rattle.conflict_cycle.specs.Belongs.{IsAgentLeg, IsHorizonLeg, IsLegWalk}
use Rattle.conflict_cycle.proofs.LegWalks.{one_arc}

-- each pair has one entry
abbrev pub HasEachOnce : Summary → Type 0
HasEachOnce entries = AllPairs (λ (e f : Entry). e.from ≡ f.from → e.to ≡ f.to → ⊥) (map entry_of entries)

-- so an entry that is there is the one that is found
pub entry_found : (entries : Summary) → HasEachOnce entries → (e : SummaryEntry) → Contains entries e → entry_in entries e.from.0 e.to.0 ≡ Some e.weight
entry_found [] once e h = absurd (let low : h.0 < 0 = h.1 in omega arith)
entry_found (x ∷ es) once e (zero, lt, is) =
    let from : x.from.0 ≡ e.from.0 = ap (λ (y : SummaryEntry). y.from.0) is in
    let to : x.to.0 ≡ e.to.0 = ap (λ (y : SummaryEntry). y.to.0) is in
    let t : ((x.from.0 == e.from.0) && (x.to.0 == e.to.0)) ≡ true = grind (arith, nat_tests) in
    ap (λ b. if b then Some x.weight else entry_in es e.from.0 e.to.0) t ∙ ap (λ (y : SummaryEntry). Some y.weight) is
entry_found (x ∷ es) once e (suc k, lt, is) =
    let rest = entry_found es (λ i j d low inside. once (suc i) (suc j) d (omega arith) (omega arith)) e (k, omega arith, is) in
    let at : get_or (map entry_of es) k (entry_of e) ≡ entry_of e = get_or-map entry_of es k e (entry_of e) (omega arith) ∙ ap entry_of is in
    let many : length (map entry_of es) ≡ length es = length-map es entry_of in
    let other = once 0 (suc k) (entry_of e) (omega arith) (omega arith) in
    elim ((x.from.0 == e.from.0) && (x.to.0 == e.to.0)) as (λ b. ((x.from.0 == e.from.0) && (x.to.0 == e.to.0)) ≡ b
    → (if b then Some x.weight else entry_in es e.from.0 e.to.0) ≡ Some e.weight) [
      | true ↦ λ t.
          let from : x.from.0 ≡ e.from.0 = grind (arith, nat_tests) in
          let to : x.to.0 ≡ e.to.0 = grind (arith, nat_tests) in
          absurd (other (from ∙ sym (ap (λ (y : Entry). y.from) at)) (to ∙ sym (ap (λ (y : Entry). y.to) at)))
      | false ↦ λ t. rest
    ] refl

-- whether it was found, as code compares weights
pub found_is : (o : Option ℤ) (v w : ℤ) → option_eq int_eq o (Some v) ≡ true → v ≡ w → o ≡ Some w
found_is None v w h e = absurd (cc)
found_is (Some x) v w h e = ap (λ (y : ℤ). Some y) ((Decides-int_eq x v).0 h ∙ e)

pub found_not : (o e : Option ℤ) (v w : ℤ) → option_eq int_eq o (Some v) ≡ false → v ≡ w → o ≡ e → e ≡ Some w → ⊥
found_not o e v w h same is found =
    false≢true (sym h ∙ ap (λ t. option_eq int_eq t (Some v)) (is ∙ found ∙ ap (λ (y : ℤ). Some y) (sym same)) ∙ int_eq_equiv.refl v)

-- an entry that its arc comes from
from_entries : (entries : Summary) (a : Constraint) → Contains (map summary_arc entries) a → (e : SummaryEntry) × Contains entries e × (a ≡ summary_arc e)
from_entries [] a h = absurd (let low : h.0 < 0 = h.1 in omega arith)
from_entries (e ∷ es) a (zero, lt, is) = (e, (0, omega arith, refl), sym is)
from_entries (e ∷ es) a (suc k, lt, is) =
    let rest = from_entries es a (k, omega arith, is) in
    let there = rest.1 in
    (rest.0, (suc there.0, omega (arith, there.1), there.2), rest.2)

-- the arc from z to a point of the network, or that from there to z
abbrev pub IsHorizonOf : Net → Constraint → Type 0
IsHorizonOf net a = (p : ℕ) × (p ≢ 0) × (p ≤ length net.places) × ((a ≡ upper_arc net.horizon p) ⊎ (a ≡ lower_arc p))

module _ (net : Net) (valid : IsNetwork net) where
  pair_is : (p agent : ℕ) (a : Constraint) → owner_in (interface_of net) p ≡ Some agent → Contains (horizon_pair net.horizon p) a → IsHorizonOf net a
  pair_is p agent a owner (zero, lt, is) = (let o = owner_shared net valid p agent owner in (p, o.0, o.1, inl (sym is)))
  pair_is p agent a owner (suc zero, lt, is) = (let o = owner_shared net valid p agent owner in (p, o.0, o.1, inr (sym is)))
  pair_is p agent a owner (suc (suc k), lt, is) = absurd (omega arith)

  pairs_are : (agent : ℕ) (ps : List ℕ) (a : Constraint) → Contains (agent_pairs (interface_of net) agent ps) a → IsHorizonOf net a
  pairs_are agent [] a h = absurd (let low : h.0 < 0 = h.1 in omega arith)
  pairs_are agent (p ∷ ps) a h =
      elim (option_eq nat_eq (owner_in (interface_of net) p) (Some agent)) as (λ b. option_eq nat_eq (owner_in (interface_of net) p) (Some agent) ≡ b
      → Contains ((if b then horizon_pair net.horizon p else []) ++ agent_pairs (interface_of net) agent ps) a → IsHorizonOf net a) [
        | true ↦ λ t g. elim (Contains-append_cases (horizon_pair net.horizon p) (agent_pairs (interface_of net) agent ps) a g) [
          | inl here ↦ pair_is p agent a (owner_eq (owner_in (interface_of net) p) agent t) here
          | inr later ↦ pairs_are agent ps a later
        ]
        | false ↦ λ t g. pairs_are agent ps a g
      ] refl h

  -- an arc that an agent published is a horizon arc, or the entry of its pair
  agent_arc_is : (agent : ℕ) (entries : Summary) → HasEachOnce entries → (a : Constraint)
      → Contains (agent_arcs (interface_of net) (record { agent = agent; entries = entries })) a
      → IsHorizonOf net a ⊎ (entry_in entries a.from.0 a.to.0 ≡ Some a.bound)
  agent_arc_is agent entries once a h =
      elim (Contains-append_cases (agent_pairs (interface_of net) agent (points_of (interface_of net))) (map summary_arc entries) a h) [
        | inl pair ↦ inl (pairs_are agent (points_of (interface_of net)) a pair)
        | inr entry ↦
            (let e = from_entries entries a entry in
            inr (subst (λ (x : Constraint). entry_in entries x.from.0 x.to.0 ≡ Some x.bound) (sym e.2) (entry_found entries once e.0 e.1)))
      ]

  module _ (l : Leg) where
    -- a leg of such an arc
    abbrev pub IsHorizonArc : Type 0
    IsHorizonArc = (a : Constraint) × IsHorizonOf net a × (a.from.0 ≡ l.from.0) × (a.to.0 ≡ l.to.0) × (a.bound ≡ l.weight)

    -- a leg that is not the entry of its pair is a horizon arc
    pub agent_leg : (agent : ℕ) (entries : Summary) → HasEachOnce entries → IsAgentLeg net agent entries l
        → (entry_in entries l.from.0 l.to.0 ≡ Some l.weight → ⊥) → IsHorizonArc
    agent_leg agent entries once h other =
        let a = h.0 in
        elim (agent_arc_is agent entries once a h.1) [
          | inl horizon ↦ (a, horizon, h.2, h.3, h.4)
          | inr entry ↦ absurd (other ((λ t. entry_in entries (sym h.2 t) (sym h.3 t)) ∙ entry ∙ ap (λ (w : ℤ). Some w) h.4))
        ]

    pub horizon_leg : IsHorizonArc → IsHorizonLeg l
    horizon_leg h =
        let a = h.0 in
        let p = h.1.0 in
        let other = h.1.1 in
        let low = h.1.2 in
        let few = valid.few_points in
        let from = h.2 in
        let to = h.3 in
        elim (h.1.3) [
          | inl up ↦
              (let i : a.from.0 ≡ 0 = ap (λ (x : Constraint). x.from.0) up in
              let j : a.to.0 ≡ p = ap (λ (x : Constraint). x.to.0) up in
              record { apart = λ e. other (omega arith); ends = inl (omega arith); few = (omega arith, omega arith) })
          | inr down ↦
              (let i : a.from.0 ≡ p = ap (λ (x : Constraint). x.from.0) down in
              let j : a.to.0 ≡ 0 = ap (λ (x : Constraint). x.to.0) down in
              record { apart = λ e. other (omega arith); ends = inr (omega arith); few = (omega arith, omega arith) })
        ]

    -- which is the arc of its number
    pub horizon_walk : IsHorizonArc → (n : ℕ) (old new : List ℕ) → n ≡ (if l.from.0 == 0 then 2 * l.to.0 - 2 else 2 * l.from.0 - 1)
        → new ≡ old ++ n ∷ [] → IsLegWalk net l.from.0 l.to.0 l.weight old new
    horizon_walk h n old new is more =
        let a = h.0 in
        let p = h.1.0 in
        let other = h.1.1 in
        let low = h.1.2 in
        let from = h.2 in
        let to = h.3 in
        let bound = h.4 in
        elim (h.1.3) [
          | inl up ↦
              (let i : a.from.0 ≡ 0 = ap (λ (x : Constraint). x.from.0) up in
              let j : a.to.0 ≡ p = ap (λ (x : Constraint). x.to.0) up in
              let t : (l.from.0 == 0) ≡ true = grind (arith, nat_tests) in
              let number : n ≡ 2 * l.to.0 - 2 = is ∙ ap (λ b. if b then 2 * l.to.0 - 2 else 2 * l.from.0 - 1) t in
              let place : n / 2 + 1 ≡ p = omega arith in
              let arc : arc_at (arcs_of net) n ≡ a = arc_even net n (omega arith) (omega arith) ∙ ap (upper_arc net.horizon) place ∙ sym up in
              at n old new arc more (omega (arith, length-arcs_of net)))
          | inr down ↦
              (let i : a.from.0 ≡ p = ap (λ (x : Constraint). x.from.0) down in
              let j : a.to.0 ≡ 0 = ap (λ (x : Constraint). x.to.0) down in
              let t : (l.from.0 == 0) ≡ false = grind (arith, nat_tests) in
              let number : n ≡ 2 * l.from.0 - 1 = is ∙ ap (λ b. if b then 2 * l.to.0 - 2 else 2 * l.from.0 - 1) t in
              let place : n / 2 + 1 ≡ p = omega arith in
              let arc : arc_at (arcs_of net) n ≡ a = arc_odd net n (omega arith) (omega arith) ∙ ap lower_arc place ∙ sym down in
              at n old new arc more (omega (arith, length-arcs_of net)))
        ] where
          at : (n : ℕ) (old new : List ℕ) → arc_at (arcs_of net) n ≡ h.0 → new ≡ old ++ n ∷ [] → n < length (arcs_of net)
              → IsLegWalk net l.from.0 l.to.0 l.weight old new
          at n old new arc more lt =
              one_arc net n l.from.0 l.to.0 l.weight old new lt (ap (λ (x : Constraint). x.from.0) arc ∙ h.2)
              (ap (λ (x : Constraint). x.to.0) arc ∙ h.3) (ap (λ (x : Constraint). x.bound) arc ∙ h.4) more
