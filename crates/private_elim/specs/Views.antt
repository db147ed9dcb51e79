-- How the fields of a local problem are seen: local_view.
use Rattle.private_elim.specs.declared.local.Local.TheInside.{Inside}
use Rattle.private_elim.specs.Locals.{LocalView}

-- what contracts see of the fields
abbrev pub local_view : Inside → LocalView
local_view l = record { agent = l.agent.0; points = l.points.items; shared = l.shared.items; arcs = l.arcs.items }
