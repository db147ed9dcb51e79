use Rattle.std.proofs.Common.{◌≡◌, take, map}
use Rattle.stn_model.specs.Net.{arcs_of}
use Rattle.plain_solve.specs.Graphs.{exchanged}
use Rattle.plain_solve.proofs.graph.turned_arcs.Given as goal

abbrev pub invariant-loop-n : goal.invariant-loop-n
invariant-loop-n l = l.arcs.items ≡ map exchanged (take l.n (arcs_of l.net))
