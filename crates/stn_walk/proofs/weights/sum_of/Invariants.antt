use Rattle.std.proofs.Common.{◌≡◌, ◌*◌, ◌+ℤ◌, ◌≤ℤ◌, neg_ℤ, pos, drop}
use Rattle.stn_model.specs.Limits.{greatest_bound}
use Rattle.stn_model.specs.Walks.{weight}
use Rattle.stn_walk.proofs.weights.sum_of.Given as goal

abbrev pub invariant-loop-n : goal.invariant-loop-n
invariant-loop-n g l = record {
  sum : weight (g.A.ArcList.list l.arcs) l.numbers ≡ l.sum +ℤ weight (g.A.ArcList.list l.arcs) (drop l.n-index l.numbers);
  low : neg_ℤ (pos (greatest_bound * l.n-index)) ≤ℤ l.sum;
  high : l.sum ≤ℤ pos (greatest_bound * l.n-index);
}
