-- When reduced parts and a shared graph are those of a network, and what is made of them: Whole, IsOver, AreReducedOf, ArePublishedOf,
-- AreExternalNumbers, IsLegWalk, IsHorizonLeg, IsAgentLeg.
use Rattle.std.specs.Prelude.{◌≡◌, ◌≢◌, ℕ, ℤ, ◌<◌, ◌++◌, ◌⊎◌, List, map, Contains, true, length, slice_get, slice_index, Some}
use Rattle.stn_model.specs.Arcs.{arc_at}
use Rattle.stn_model.specs.Limits.{most_points}
use Rattle.stn_model.specs.declared.ids.Constraint.{Constraint}
use Rattle.stn_model.specs.Net.{Net, arcs_of}
use Rattle.stn_model.specs.Conflicts.{external_arcs}
use Rattle.stn_model.specs.Walks.{IsWalk, weight}
use Rattle.private_elim.specs.Locals.{local_of}
use Rattle.private_elim.specs.ReducedViews.{ReducedView}
use Rattle.shared_graph.specs.declared.unfold.Leg.{Leg}
use Rattle.shared_graph.specs.Histories.{SharedView}
use Rattle.shared_graph.specs.Interfaces.{Summary, interface_of}
use Rattle.shared_graph.specs.Publications.{entries_in}
use Rattle.shared_graph.specs.States.{State, is_published, agent_arcs}

-- a network, and the state of a shared graph over it
pub record Whole : Type 0 where
  pub net : Net
  pub state : State

-- the graph is over the network's interface, in this state
abbrev pub IsOver : Whole → SharedView → Type 0
IsOver whole v = (v.face ≡ interface_of whole.net) × (v.state ≡ whole.state)

-- one reduced part for each agent, by number, each of the agent's local problem in the network
pub record AreReducedOf (net : Net) (reduced : List ReducedView) : Type 0 where
  pub one_each : length reduced ≡ length net.agents
  pub each : (a : ℕ) (r : ReducedView) → slice_get reduced a ≡ Some r → r.local ≡ local_of net a

-- each published summary is that of the agent's reduced part
abbrev pub ArePublishedOf : List ReducedView → State → Type 0
ArePublishedOf reduced s = (a : ℕ) (r : ReducedView) → slice_get reduced a ≡ Some r → is_published s a ≡ true → entries_in s.published a ≡ r.summary

-- the network's numbers of its external arcs, by place
pub record AreExternalNumbers (net : Net) (numbers : List ℕ) : Type 0 where
  pub within : (e : ℕ) → e < length numbers → slice_index numbers e < length (arcs_of net)
  pub arcs : map (arc_at (arcs_of net)) numbers ≡ external_arcs net

-- the list goes on by a walk of the network from i to j of this weight
pub record IsLegWalk (net : Net) (i j : ℕ) (w : ℤ) (old new : List ℕ) : Type 0 where
  pub more : List ℕ
  pub new_is : new ≡ old ++ more
  pub walk : IsWalk (arcs_of net) i j more
  pub weighs : weight (arcs_of net) more ≡ w

-- a leg between the reference point and another one
pub record IsHorizonLeg (l : Leg) : Type 0 where
  pub apart : l.from.0 ≢ l.to.0
  pub ends : (l.from.0 ≡ 0) ⊎ (l.to.0 ≡ 0)
  pub few : (l.from.0 < most_points) × (l.to.0 < most_points)

-- a leg that the agent published: an entry of its summary, or a horizon arc of a shared point of it
abbrev pub IsAgentLeg : Net → ℕ → Summary → Leg → Type 0
IsAgentLeg net agent summary l =
    (a : Constraint) × Contains (agent_arcs (interface_of net) (record { agent = agent; entries = summary })) a
    × (a.from.0 ≡ l.from.0) × (a.to.0 ≡ l.to.0) × (a.bound ≡ l.weight)
