use Rattle.std.proofs.Common.{◌≡◌, ◌++◌, map}
use Rattle.std.specs.Prelude.{take}
use Rattle.sample_nets.specs.Samples.{arc_of}
use Rattle.sample_nets.proofs.add_arcs.Given as goal

abbrev pub invariant-loop-arc : goal.invariant-loop-arc
invariant-loop-arc l = l.net ≡ record l.initial.net { given = l.initial.net.given ++ map arc_of (take l.arc-index l.arcs) }
