-- What is true of every network: IsArcWithin, IsActWithin, IsNetwork.
use Rattle.std.specs.Prelude.{◌≡◌, ◌≢◌, ℕ, ◌+◌, ◌-◌, ◌*◌, ◌<◌, ◌≤◌, List, pos, neg_ℤ, ◌≤ℤ◌, length, slice_index_or, IsTrue, [], ◌∷◌}
use Rattle.std.specs.List.{All, AllPairs}
use Rattle.stn_model.specs.declared.ids.Constraint.{Constraint}
use Rattle.stn_model.specs.declared.ids.Act.{Act}
use Rattle.stn_model.specs.Limits.{most_agents, most_points, most_arcs, greatest_bound}
use Rattle.stn_model.specs.Net.{Net, Place, no_place, point_count, agent_names, point_names, act_start_name, act_end_name}
use Rattle.stn_model.specs.Refusals.{is_name}

-- the arc joins two different points of the first n, and its bound has magnitude at most 2^40
pub record IsArcWithin (n : ℕ) (a : Constraint) : Type 0 where
  pub starts : a.from.0 < n
  pub ends : a.to.0 < n
  pub different : a.from.0 ≢ a.to.0
  pub low : neg_ℤ (pos greatest_bound) ≤ℤ a.bound
  pub high : a.bound ≤ℤ pos greatest_bound

-- the act's end is the next point after its start; both have one owner and are named for one act; its least duration is not below 0
pub record IsActWithin (places : List Place) (a : Act) : Type 0 where
  pub after_z : 0 < a.start.0
  pub next : a.end.0 ≡ a.start.0 + 1
  pub there : a.end.0 ≤ length places
  pub one_owner : (slice_index_or places (a.end.0 - 1) no_place).owner ≡ (slice_index_or places (a.start.0 - 1) no_place).owner
  pub name : List ℕ
  pub start_name : (slice_index_or places (a.start.0 - 1) no_place).name ≡ act_start_name name
  pub end_name : (slice_index_or places (a.end.0 - 1) no_place).name ≡ act_end_name name
  pub low_low : pos 0 ≤ℤ a.low
  pub low_high : a.low ≤ℤ pos greatest_bound
  pub high_low : neg_ℤ (pos greatest_bound) ≤ℤ a.high
  pub high_high : a.high ≤ℤ pos greatest_bound

-- within the limits, with names of the right form that differ, owners that are agents, acts in the order of their points, and arcs between
-- different points
pub record IsNetwork (net : Net) : Type 0 where
  pub horizon_low : pos 0 ≤ℤ net.horizon
  pub horizon_high : net.horizon ≤ℤ pos greatest_bound
  pub few_agents : length net.agents ≤ most_agents
  pub few_points : point_count net ≤ most_points
  pub few_acts : 2 * length net.acts ≤ length net.places
  pub few_arcs : 2 * length net.acts + length net.given ≤ most_arcs
  pub agent_forms : All (λ a. IsTrue (is_name a.name)) net.agents
  pub point_forms : All (λ p. IsTrue (is_name p.name)) net.places
  pub agents_differ : AllPairs (λ x y. x ≢ y) (agent_names net)
  pub points_differ : AllPairs (λ x y. x ≢ y) (point_names net)
  pub not_z : All (λ p. p.name ≢ 122 ∷ []) net.places
  pub owners : All (λ p. p.owner < length net.agents) net.places
  pub acts : All (IsActWithin net.places) net.acts
  pub in_order : AllPairs (λ a b. a.end.0 < b.start.0) net.acts
  pub arcs : All (IsArcWithin (point_count net)) net.given
