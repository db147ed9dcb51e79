-- How the fields of a path are seen: trail_of.
use Rattle.std.specs.Prelude.{length}
use Rattle.stn_walk.specs.declared.path.Path.TheInside.{Inside}
use Rattle.stn_walk.specs.Trails.{Trail}

abbrev pub trail_of : Inside → Trail
trail_of p = record { points = p.points.items; arcs = p.arcs.items; room = length p.places.items }
