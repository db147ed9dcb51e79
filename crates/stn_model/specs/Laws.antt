-- Laws about walks, schedules, least bounds, names and kinds of arcs: NegativeCyclesExclude, NegativeCyclesGoOn, LeastBoundsAreUnique, LeastBoundToItself,
-- WalksHaveArcs, ArcWalksHaveNumbers, PointsHaveNames, AgentsHaveNames, HasOneOwner, ArcsHaveKinds, BoundsAreSet.
use Rattle.std.specs.Prelude.{◌≡◌, ℕ, ◌<◌, ℤ, pos, List, [], map, length, set, Some, Contains, IsTrue, ◌⊎◌}
use Rattle.stn_model.specs.declared.ids.Constraint.{Constraint}
use Rattle.stn_model.specs.Arcs.{arc_at}
use Rattle.stn_model.specs.Walks.{IsWalk, weight, IsNegativeCycle}
use Rattle.stn_model.specs.ArcWalks.{IsArcWalk, arcs_weight}
use Rattle.stn_model.specs.Schedules.{IsConsistent, IsLeastBound}
use Rattle.stn_model.specs.Conflicts.{own_arcs, external_arcs}
use Rattle.stn_model.specs.Kinds.{kind_of}
use Rattle.stn_model.specs.Net.{Net, arcs_of, is_given, with_bound, point_count, point_name_of, agent_name_of, find_point, find_agent}
use Rattle.stn_model.specs.Valid.{IsNetwork}

-- a negative cycle and a schedule exclude each other
abbrev pub NegativeCyclesExclude : Type 0
NegativeCyclesExclude =
    (arcs : List Constraint) (points : ℕ) (cycle : List ℕ) → IsNegativeCycle arcs cycle → IsConsistent points arcs → ⊥

-- a negative cycle has an arc
abbrev pub NegativeCyclesGoOn : Type 0
NegativeCyclesGoOn = (arcs : List Constraint) → IsNegativeCycle arcs [] → ⊥

-- there is at most one least bound
abbrev pub LeastBoundsAreUnique : Type 0
LeastBoundsAreUnique =
    (arcs : List Constraint) (points i j : ℕ) (a b : ℤ) → IsLeastBound points arcs i j a → IsLeastBound points arcs i j b → a ≡ b

-- from a point to itself it is 0, where some schedule satisfies the arcs
abbrev pub LeastBoundToItself : Type 0
LeastBoundToItself = (arcs : List Constraint) (points i : ℕ) → IsConsistent points arcs → IsLeastBound points arcs i i (pos 0)

-- the arcs of the numbers of a walk are a walk with the same ends and weight
abbrev pub WalksHaveArcs : Type 0
WalksHaveArcs =
    (arcs : List Constraint) (i j : ℕ) (ns : List ℕ) → IsWalk arcs i j ns
    → IsArcWalk arcs i j (map (arc_at arcs) ns) × (arcs_weight (map (arc_at arcs) ns) ≡ weight arcs ns)

-- each walk of arcs has numbers
abbrev pub ArcWalksHaveNumbers : Type 0
ArcWalksHaveNumbers =
    (arcs : List Constraint) (i j : ℕ) (w : List Constraint) → IsArcWalk arcs i j w
    → (ns : List ℕ) × IsWalk arcs i j ns × (map (arc_at arcs) ns ≡ w)

-- each point of a network is found by its name, and what is found is a point of that name
abbrev pub PointsHaveNames : Type 0
PointsHaveNames =
    (net : Net) → IsNetwork net
    → ((p : ℕ) → p < point_count net → find_point net (point_name_of net p) ≡ Some p)
    × ((name : List ℕ) (p : ℕ) → find_point net name ≡ Some p → (p < point_count net) × (point_name_of net p ≡ name))

-- each agent of a network is found by its name, and what is found is an agent of that name
abbrev pub AgentsHaveNames : Type 0
AgentsHaveNames =
    (net : Net) → IsNetwork net
    → ((a : ℕ) → a < length net.agents → find_agent net (agent_name_of net a) ≡ Some a)
    × ((name : List ℕ) (a : ℕ) → find_agent net name ≡ Some a → (a < length net.agents) × (agent_name_of net a ≡ name))

-- the arc is own to one agent, to no other, and not external
pub record HasOneOwner (net : Net) (a : Constraint) : Type 0 where
  pub agent : ℕ
  pub known : agent < length net.agents
  pub own : Contains (own_arcs net agent) a
  pub only : (other : ℕ) → Contains (own_arcs net other) a → other ≡ agent
  pub inner : Contains (external_arcs net) a → ⊥

-- each arc of a network is external and own to nobody, or own to exactly one agent
abbrev pub ArcsHaveKinds : Type 0
ArcsHaveKinds =
    (net : Net) → IsNetwork net → (a : Constraint) → Contains (arcs_of net) a
    → (Contains (external_arcs net) a × ((agent : ℕ) → Contains (own_arcs net agent) a → ⊥)) ⊎ HasOneOwner net a

-- another bound at a given arc changes the bound of that arc, no other arc, and no point's kind
abbrev pub BoundsAreSet : Type 0
BoundsAreSet =
    (net : Net) (n : ℕ) (b : ℤ) → IsNetwork net → IsTrue (is_given net n)
    → (arcs_of (with_bound net n b) ≡ set (arcs_of net) n (record (arc_at (arcs_of net) n) { bound = b }))
    × ((p : ℕ) → kind_of (with_bound net n b) p ≡ kind_of net p)
