use Rattle.std.proofs.Common.{◌≡◌, ◌*◌, ◌+ℤ◌, ◌≤ℤ◌, neg_ℤ, pos, drop}
use Rattle.stn_model.specs.Net.{arcs_of}
use Rattle.stn_model.specs.Limits.{greatest_bound}
use Rattle.stn_model.specs.Walks.{IsWalk, weight}
use Rattle.stn_walk.proofs.weights.weight_of.Given as goal

abbrev pub invariant-loop-n : goal.invariant-loop-n
invariant-loop-n l = record {
  ahead : IsWalk (arcs_of l.net) l.fn.from.0 l.to.0 l.arcs → IsWalk (arcs_of l.net) l.at l.to.0 (drop l.n-index l.arcs);
  back : IsWalk (arcs_of l.net) l.at l.to.0 (drop l.n-index l.arcs) → IsWalk (arcs_of l.net) l.fn.from.0 l.to.0 l.arcs;
  sum : weight (arcs_of l.net) l.arcs ≡ l.sum +ℤ weight (arcs_of l.net) (drop l.n-index l.arcs);
  low : neg_ℤ (pos (greatest_bound * l.n-index)) ≤ℤ l.sum;
  high : l.sum ≤ℤ pos (greatest_bound * l.n-index);
}
