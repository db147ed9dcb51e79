use Rattle.std.proofs.Common.{◌≡◌, length}
use Rattle.stn_model.specs.Limits.{most_points}
use Rattle.stn_model.specs.Net.{arcs_of}
use Rattle.stn_walk.proofs.Meets.{AreMet}
use Rattle.stn_walk.proofs.cycle.passes_no_point_twice.Given as goal

abbrev pub invariant-loop-n : goal.invariant-loop-n
invariant-loop-n l = record {
  met : AreMet (arcs_of l.net) l.arcs l.n-index l.met;
  size : length l.met ≡ most_points;
}
