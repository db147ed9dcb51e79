use Rattle.std.proofs.Common.{◌≡◌, take}
use Rattle.stn_model.specs.Net.{arcs_of}
use Rattle.plain_solve.proofs.graph.all_arcs.Given as goal

abbrev pub invariant-loop-n : goal.invariant-loop-n
invariant-loop-n l = l.arcs.items ≡ take l.n (arcs_of l.net)
