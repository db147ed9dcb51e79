-- How the fields of bounds and of distances are seen: bounds_of, IsWhole, tree_of.
use Rattle.std.specs.Prelude.{map, length}
use Rattle.tri_solve.specs.declared.bounds.ChordalBounds.TheInside.{Inside}
use Rattle.tri_solve.specs.declared.distances.Distances.TheInside.{Inside as DistancesInside}
use Rattle.tri_solve.specs.Edges.{Bounds, ids, AreBounds}
use Rattle.tri_solve.specs.Layouts.{IsLaidOut}
use Rattle.tri_solve.specs.Trees.{Tree}

abbrev pub bounds_of : Inside → Bounds
bounds_of b = record { order = ids b.order.items; edges = b.edges.items }

-- the edges are as told, and laid out
pub record IsWhole (b : Inside) : Type 0 where
  pub bounds : AreBounds (bounds_of b)
  pub laid_out : IsLaidOut (ids b.order.items) b.edges.items (length b.edges.items) b.lasts.items b.befores.items

abbrev pub tree_of : DistancesInside → Tree
tree_of d = record { source = d.source.0; dists = map (λ l. l.number) d.labels.items; vias = map (λ l. l.via.0) d.labels.items }
