use Rattle.std.proofs.Common.{◌≡◌}
use Rattle.std.specs.Prelude.{take}
use Rattle.sample_nets.specs.Samples.{letters}
use Rattle.sample_nets.proofs.sample.Given as goal

abbrev pub invariant-loop-n : goal.invariant-loop-n
invariant-loop-n l = l.net ≡ record l.initial.net { places = letters 97 (take l.n l.owners) }
