use Rattle.std.proofs.Common.{◌≡◌, take, map, neg_ℤ}
use Rattle.plain_solve.proofs.least.distances_of.Given as goal

abbrev pub invariant-loop-i : goal.invariant-loop-i
invariant-loop-i l = l.distances.items ≡ map neg_ℤ (take l.i l.labels.times.items)
