use Rattle.std.proofs.Common.{◌≡◌}
use Rattle.stn_model.specs.Net.{arcs_of, point_count}
use Rattle.stn_walk.proofs.Pruned.{IsPruned}
use Rattle.stn_walk.proofs.pruning.prune.Given as goal

abbrev pub invariant-loop-n : goal.invariant-loop-n
invariant-loop-n l = record {
  pruned : IsPruned (arcs_of l.net) l.fn.from.0 l.fn.to.0 l.arcs l.n-index l.path;
  room : l.path.room ≡ point_count l.net;
}
