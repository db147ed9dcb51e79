-- Networks in which an agent has the part of a local problem: HasPart, OfPart.
use Rattle.std.specs.Prelude.{◌≡◌, map}
use Rattle.stn_model.specs.Net.{Net}
use Rattle.stn_model.specs.Valid.{IsNetwork}
use Rattle.stn_model.specs.Kinds.{is_shared}
use Rattle.stn_model.specs.Conflicts.{own_arcs}
use Rattle.private_elim.specs.Locals.{LocalView, points_of, arcs_in}

-- the agent has these points with these kinds and these own arcs in the network, whatever the numbers of the arcs there
pub record HasPart (net : Net) (v : LocalView) : Type 0 where
  pub points : v.points ≡ points_of net v.agent
  pub shared : v.shared ≡ map (is_shared net) (points_of net v.agent)
  pub arcs : arcs_in v ≡ own_arcs net v.agent

-- what holds of every such network
abbrev pub OfPart : LocalView → (Net → Type 0) → Type 0
OfPart v holds = (net : Net) → IsNetwork net → HasPart net v → holds net
