use Rattle.std.proofs.Common.{◌≡◌, map, take}
use Rattle.std.specs.Prelude.{◌-ℤ◌}
use Rattle.tri_solve.specs.Trees.{dist_of}
use Rattle.tri_solve.proofs.distances.attain.Given as goal

abbrev pub invariant-loop-label : goal.invariant-loop-label
invariant-loop-label l = record {
  numbers : map (λ k. k.number) l.label-items ≡ l.d.dists;
  taken : l.times.items ≡ map (λ x. x -ℤ dist_of l.d 0) (take l.label-index l.d.dists);
}
