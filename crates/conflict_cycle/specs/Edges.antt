-- Least bounds unfolded into walks of a network's arcs: place_of, ArePlaces, HasLeg, IsLeft, Leaves, Arrives, IsHop, IsGap.
use Rattle.std.specs.Prelude.{◌≡◌, ◌≢◌, ◌⊎◌, ℕ, ◌<◌, ℤ, pos, ◌+ℤ◌, List, nat_eq, Option, Some, None, length, reverse, slice_get, slice_index}
use Rattle.std.specs.List.{position_or_len}
use Rattle.stn_model.specs.declared.ids.AgentId.{AgentId}
use Rattle.stn_model.specs.Joined.{ComesBefore, IsJoined}
use Rattle.stn_model.specs.Net.{Net, arcs_of, point_count}
use Rattle.stn_model.specs.Schedules.{IsLeastBound}
use Rattle.stn_model.specs.Walks.{IsWalk, weight}
use Rattle.private_elim.specs.ReducedViews.{ReducedView}
use Rattle.private_elim.specs.Throughs.{IsForwardWeight}
use Rattle.shared_graph.specs.Weights.{forward}
use Rattle.conflict_cycle.specs.PartOrders.{order_of}
use Rattle.conflict_cycle.specs.Parts.{PartsView}

-- the place of a point in an order, and the order's length where the order lacks it
abbrev pub place_of : List ℕ → ℕ → ℕ
place_of order p = position_or_len (nat_eq p) order

-- the places of the first points, by point
pub record ArePlaces (points : ℕ) (order places : List ℕ) : Type 0 where
  pub one_each : length places ≡ points
  pub each : (p : ℕ) → p < points → slice_index places p ≡ place_of order p

-- the order of all points
abbrev pub whole_order : PartsView → List ℕ
whole_order parts = order_of parts.reduced parts.shared.state

-- w is the forward weight between two points in the part of an agent, or in the shared graph where there is no agent
abbrev pub HasLeg : PartsView → Option AgentId → ℕ → ℕ → ℤ → Type 0
HasLeg parts (Some a) i j w = (r : ReducedView) × (slice_get parts.reduced a.0 ≡ Some r) × IsForwardWeight r i j w
HasLeg parts None i j w = (i ≢ j) × (forward parts.shared.face parts.shared.state i j ≡ Some w)

-- the points are the same; or they are joined in the order of all points, and this is the least bound from the first to the second
abbrev pub IsLeft : Net → List ℕ → ℕ → ℕ → ℤ → Type 0
IsLeft net order i j w = ((i ≡ j) × (w ≡ pos 0)) ⊎ (IsJoined (arcs_of net) order i j × IsLeastBound (point_count net) (arcs_of net) i j w)

-- i comes before j and m, and the least bound from i to j is a forward weight from i to m and what is left from there
pub record Leaves (net : Net) (parts : PartsView) (i j : ℕ) (agent : Option AgentId) (m : ℕ) : Type 0 where
  pub first : ComesBefore (whole_order parts) i j
  pub later : ComesBefore (whole_order parts) i m
  pub weight : ℤ
  pub leg : HasLeg parts agent i m weight
  pub rest : ℤ
  pub left : IsLeft net (whole_order parts) m j rest
  pub sum : IsLeastBound (point_count net) (arcs_of net) i j (weight +ℤ rest)

-- j comes before i and m, and the least bound from i to j is what is left from i to m and a forward weight from there
pub record Arrives (net : Net) (parts : PartsView) (i j : ℕ) (agent : Option AgentId) (m : ℕ) : Type 0 where
  pub first : ComesBefore (whole_order parts) j i
  pub later : ComesBefore (whole_order parts) j m
  pub weight : ℤ
  pub leg : HasLeg parts agent m j weight
  pub rest : ℤ
  pub left : IsLeft net (whole_order parts) i m rest
  pub sum : IsLeastBound (point_count net) (arcs_of net) i j (rest +ℤ weight)

abbrev pub IsHop : Net → PartsView → ℕ → ℕ → Option AgentId → ℕ → Type 0
IsHop net parts i j agent m = Leaves net parts i j agent m ⊎ Arrives net parts i j agent m

-- a walk from i to a point, what is left from there to another one, and a walk from that to j, listed from its end, weigh the least bound together
pub record IsGap (net : Net) (order : List ℕ) (i j from to : ℕ) (before after : List ℕ) : Type 0 where
  pub front : IsWalk (arcs_of net) i from before
  pub back : IsWalk (arcs_of net) to j (reverse after)
  pub rest : ℤ
  pub left : IsLeft net order from to rest
  pub sum : IsLeastBound (point_count net) (arcs_of net) i j (weight (arcs_of net) before +ℤ (rest +ℤ weight (arcs_of net) (reverse after)))
