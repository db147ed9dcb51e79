-- An agent's own arcs and its own conflict, and the arcs that agents know of each other: own_arcs, external_arcs, IsOwnConflict.
use Rattle.std.specs.Prelude.{ℕ, not, List, filter, count_by, ◌≤◌, IsTrue}
use Rattle.std.specs.List.{AllByRecursion}
use Rattle.stn_model.specs.declared.ids.Constraint.{Constraint}
use Rattle.stn_model.specs.Arcs.{arc_at}
use Rattle.stn_model.specs.Net.{Net, arcs_of}
use Rattle.stn_model.specs.Kinds.{is_own, is_external, is_private_of}
use Rattle.stn_model.specs.Walks.{IsNegativeCycle, heads}

-- the agent's own arcs, in the order of their numbers
abbrev pub own_arcs : Net → ℕ → List Constraint
own_arcs net agent = filter (is_own net agent) (arcs_of net)

-- the arcs between points of different owners, in the order of their numbers
abbrev pub external_arcs : Net → List Constraint
external_arcs net = filter (is_external net) (arcs_of net)

-- a negative cycle of own arcs, by number, whose points are all private points of the agent, or all but one
pub record IsOwnConflict (net : Net) (agent : ℕ) (cycle : List ℕ) : Type 0 where
  pub negative : IsNegativeCycle (arcs_of net) cycle
  pub own : AllByRecursion (λ n. IsTrue (is_own net agent (arc_at (arcs_of net) n))) cycle
  pub private_but_one : count_by (λ p. not (is_private_of net agent p)) (heads (arcs_of net) cycle) ≤ 1
