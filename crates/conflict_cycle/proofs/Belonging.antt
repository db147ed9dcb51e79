-- Legs over a network, with the reduced parts of its agents: external arcs have numbers, and what is published is what the reduced part has:
-- external_leg, agent_known, agent_reduced, once_of.
use Rattle.std.proofs.Common.{◌≡◌, ℕ, ◌<◌, List, [], ◌∷◌, ◌++◌, true, Some, length, get_or, ap, sym, ◌∙◌, arith, subst}
use Rattle.std.specs.Prelude.{Contains, slice_get, slice_index}
use Rattle.std.proofs.lemmas.List.{length-map}
use Rattle.std.proofs.lemmas.Option.{slice_get-get_or}
use Rattle.stn_model.specs.declared.ids.AgentId.{AgentId}
use Rattle.stn_model.specs.declared.ids.Constraint.{Constraint}
use Rattle.stn_model.specs.Net.{Net}
use Rattle.stn_model.specs.Valid.{IsNetwork}
use Rattle.dist_rows.specs.declared.cell.Via.{Via}
use Rattle.dist_rows.specs.declared.cell.Via.TheVariants.{Given, Published as PublishedBy}
use Rattle.private_elim.specs.Locals.{LocalView, local_of}
use Rattle.private_elim.specs.ReducedViews.{ReducedView, IsReduced}
use Rattle.shared_graph.specs.declared.unfold.Leg.{Leg}
use Rattle.shared_graph.specs.Graphs.{IsAgentArc}
use Rattle.shared_graph.specs.Interfaces.{interface_of}
use Rattle.shared_graph.specs.Legs.{IsLegFrom, IsLeg, AreTold}
use Rattle.shared_graph.specs.Publications.{entries_in}
use Rattle.shared_graph.specs.States.{is_published, agent_arcs}
use Rattle.conflict_cycle.specs.Belongs.{Whole, AreReducedOf, ArePublishedOf, AreExternalNumbers, IsLegWalk, IsAgentLeg}
use Rattle.conflict_cycle.proofs.AgentLegs.{HasEachOnce}
use Rattle.conflict_cycle.proofs.ExternalNumbers.{external_at}
use Rattle.conflict_cycle.proofs.LegWalks.{one_arc}

module _ (whole : Whole) (l : Leg) (leg : IsLeg (interface_of whole.net) whole.state l) where
  from_via : (v : Via) → l.via ≡ v
      → IsLegFrom (interface_of whole.net) whole.state l.from.0 l.to.0 (record { weight = l.weight; via = l.via }) v
  from_via v via =
      subst (λ v. IsLegFrom (interface_of whole.net) whole.state l.from.0 l.to.0 (record { weight = l.weight; via = l.via }) v) via leg

  -- an external arc is the arc of the number at its place
  pub external_leg : (numbers : List ℕ) → AreExternalNumbers whole.net numbers → (e : ℕ) → l.via ≡ Given e → (old new : List ℕ)
      → new ≡ old ++ slice_index numbers e ∷ [] → IsLegWalk whole.net l.from.0 l.to.0 l.weight old new
  external_leg numbers known e via old new is =
      let h = from_via (Given e) via in
      let at = external_at whole.net numbers known e h.within in
      one_arc whole.net (slice_index numbers e) l.from.0 l.to.0 l.weight old new at.1 (ap (λ (a : Constraint). a.from.0) at.2 ∙ h.starts)
      (ap (λ (a : Constraint). a.to.0) at.2 ∙ h.ends) (ap (λ (a : Constraint). a.bound) at.2 ∙ h.weighs) is

  module _ (reduced : List ReducedView) (known : AreReducedOf whole.net reduced) (told : AreTold (interface_of whole.net) whole.state) (a : AgentId)
      (via : l.via ≡ PublishedBy a) where
    arc : IsAgentArc (interface_of whole.net) whole.state l.from.0 l.to.0 (record { weight = l.weight; via = l.via }) a.0
    arc = from_via (PublishedBy a) via

    -- the agent has a reduced part
    pub agent_known : a.0 < length reduced
    agent_known =
        let p = arc.0 in
        let low = (told p arc.1).0 in
        let same : p.agent ≡ a.0 = arc.2 in
        let agents = length-map whole.net.agents (λ a. a.lean) in
        let many = known.one_each in
        omega arith

    -- with the summary that it published
    pub agent_reduced : ArePublishedOf reduced whole.state → (r : ReducedView) → r ≡ get_or reduced a.0 r
        → (r.local ≡ local_of whole.net r.local.agent) × IsAgentLeg whole.net r.local.agent r.summary l
    agent_reduced published r is =
        let p = arc.0 in
        let one = told p arc.1 in
        let there : slice_get reduced a.0 ≡ Some r = slice_get-get_or reduced a.0 r agent_known ∙ ap (λ (r : ReducedView). Some r) (sym is) in
        let local = known.each a.0 r there in
        let agent : r.local.agent ≡ a.0 = ap (λ (v : LocalView). v.agent) local in
        let did : is_published whole.state a.0 ≡ true = ap (is_published whole.state) (sym arc.2) ∙ one.1 in
        let entries : p.entries ≡ r.summary = one.2 ∙ ap (entries_in whole.state.published) arc.2 ∙ published a.0 r there did in
        let same : p ≡ record { agent = r.local.agent; entries = r.summary } = (λ t. record { agent = (arc.2 ∙ sym agent) t; entries = entries t }) in
        let own = arc.3 in (
          local ∙ ap (local_of whole.net) (sym agent),
          (own.0, subst (λ q. Contains (agent_arcs (interface_of whole.net) q) own.0) same own.1, own.2, own.3, own.4),
        )

module _ (net : Net) (valid : IsNetwork net) (r : ReducedView) (local : r.local ≡ local_of net r.local.agent) where
  -- its summary has each pair once
  pub once_of : IsReduced r.local r.order r.summary → HasEachOnce r.summary
  once_of h = (h.sums_up net valid local).once
