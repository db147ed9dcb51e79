use Rattle.stn_model.specs.Net.{arcs_of}
use Rattle.stn_walk.proofs.Detours.{IsRerouted}
use Rattle.stn_walk.proofs.detour.avoid.Given as goal

abbrev pub invariant-loop-n : goal.invariant-loop-n
invariant-loop-n l = IsRerouted (arcs_of l.net) l.fn.from.0 l.fn.to.0 l.arcs l.withdrawn l.n-index l.round.items
