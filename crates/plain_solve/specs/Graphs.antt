-- Arcs along which labels rise: those of a network, as they are or turned round.
use Rattle.std.specs.Prelude.{◌≡◌, ℕ, ◌+◌, ◌*◌, ◌<◌, ◌≤◌, pos, ◌≤ℤ◌, length, map}
use Rattle.std.specs.List.{All}
use Rattle.stn_model.specs.Limits.{greatest_bound, most_arcs, most_points}
use Rattle.stn_model.specs.declared.ids.Constraint.{Constraint}
use Rattle.stn_model.specs.Net.{Net, arcs_of, point_count}
use Rattle.stn_model.specs.Valid.{IsArcWithin}
use Rattle.plain_solve.specs.declared.graph.Graph.{Graph}

-- few points and arcs, each arc between two different points, numbers of magnitude at most 2^40
pub record IsGraph (g : Graph) : Type 0 where
  pub root_in : g.root < g.points
  pub few_points : g.points ≤ most_points
  pub few_arcs : length g.arcs.items ≤ 2 * most_points + most_arcs
  pub arcs : All (IsArcWithin g.points) g.arcs.items
  pub top_low : pos 0 ≤ℤ g.top
  pub top_high : g.top ≤ℤ pos greatest_bound

-- the arcs of the network, with z as the root
pub record IsOnward (net : Net) (g : Graph) : Type 0 where
  pub points : g.points ≡ point_count net
  pub root : g.root ≡ 0
  pub top : g.top ≡ net.horizon
  pub arcs : g.arcs.items ≡ arcs_of net

-- the arc with its ends exchanged
abbrev pub exchanged : Constraint → Constraint
exchanged a = record { from = a.to; to = a.from; bound = a.bound }

-- the arcs of the network turned round, with the source as the root
pub record IsTurned (net : Net) (source : ℕ) (g : Graph) : Type 0 where
  pub points : g.points ≡ point_count net
  pub root : g.root ≡ source
  pub top : g.top ≡ net.horizon
  pub arcs : g.arcs.items ≡ map exchanged (arcs_of net)
