use Rattle.std.proofs.Common.{◌≡◌, filter, take}
use Rattle.stn_model.specs.Net.{arcs_of}
use Rattle.stn_model.specs.Kinds.{is_external}
use Rattle.shared_graph.proofs.interface.externals_of.Given as goal

abbrev pub invariant-loop-n : goal.invariant-loop-n
invariant-loop-n l = l.arcs.items ≡ filter (is_external l.net) (take l.n (arcs_of l.net))
