-- What the others see of an agent's private part is its summary alone: IsSameToOthers, LeastBoundsCarryOver.
use Rattle.std.specs.Prelude.{◌≡◌, ◌↔◌, ℕ, ℤ, List, false}
use Rattle.stn_model.specs.Kinds.{is_private_of}
use Rattle.stn_model.specs.Net.{Net, arcs_of, point_count}
use Rattle.stn_model.specs.Schedules.{IsConsistent, IsLeastBound}
use Rattle.stn_model.specs.Summaries.{Entry, IsSummary}
use Rattle.stn_model.specs.Valid.{IsNetwork}
use Rattle.shared_graph.specs.Laws.{IsSameBut}

-- two networks that are the same but for the private part of agent a, which has the same summary in both, so an own conflict in neither
pub record IsSameToOthers (net other : Net) (a : ℕ) : Type 0 where
  pub same : IsSameBut net other a
  pub entries : List Entry
  pub sums_up : IsSummary net a entries
  pub sums_up_other : IsSummary other a entries

-- either both have a satisfying schedule or neither has, and the least bounds between points that are not private to a are the same
abbrev pub LeastBoundsCarryOver : Type 0
LeastBoundsCarryOver =
    (net other : Net) (a : ℕ) → IsNetwork net → IsNetwork other → IsSameToOthers net other a
    → (IsConsistent (point_count net) (arcs_of net) ↔ IsConsistent (point_count other) (arcs_of other))
    × ((i j : ℕ) (b : ℤ) → is_private_of net a i ≡ false → is_private_of net a j ≡ false
    → IsLeastBound (point_count net) (arcs_of net) i j b ↔ IsLeastBound (point_count other) (arcs_of other) i j b)
