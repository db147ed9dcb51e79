use Rattle.std.proofs.Common.{◌≡◌}
use Rattle.stn_walk.proofs.Pruned.{IsNarrowed}
use Rattle.stn_walk.proofs.pruning.negative_part.Given as goal

abbrev pub invariant-loop-n : goal.invariant-loop-n
invariant-loop-n g l = record {
  narrowed : IsNarrowed (g.A.ArcList.list l.arcs) l.start l.closed l.n-index l.path;
  room : l.path.room ≡ g.A.ArcList.points l.arcs;
}
