use Rattle.std.proofs.Common.{map, take}
use Rattle.stn_model.specs.declared.ids.PointId.{PointId}
use Rattle.stn_model.specs.Walks.{AllDifferent}
use Rattle.reduction_tests.proofs.calls.are_different.Given as goal

abbrev pub invariant-loop-n : goal.invariant-loop-n
invariant-loop-n l = AllDifferent (map (λ (p : PointId). p.0) (take l.n l.order))
