use Rattle.std.proofs.Common.{◌-◌, ◌*◌, length}
use Rattle.tri_solve.specs.Edges.{ids}
use Rattle.tri_solve.specs.Trees.{IsBack}
use Rattle.tri_solve.specs.Views.{tree_of}
use Rattle.tri_solve.proofs.distances.Distances.path.Given as goal

abbrev pub invariant-back : goal.invariant-back
invariant-back l = record { back : IsBack (tree_of l.self-inside) l.fn.p.0 l.at.0 (ids l.back.items) }

abbrev pub decreases-back : goal.decreases-back
decreases-back l = 2 * length l.self-inside.labels.items - length l.back.items
