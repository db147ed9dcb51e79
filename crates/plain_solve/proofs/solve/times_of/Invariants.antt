use Rattle.std.proofs.Common.{◌≡◌, take}
use Rattle.plain_solve.proofs.solve.times_of.Given as goal

abbrev pub invariant-loop-i : goal.invariant-loop-i
invariant-loop-i l = l.times.items ≡ take l.i l.labels.times.items
