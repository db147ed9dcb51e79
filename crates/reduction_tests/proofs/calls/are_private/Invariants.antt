use Rattle.std.proofs.Common.{◌≡◌, take, true}
use Rattle.std.specs.List.{AllByRecursion}
use Rattle.stn_model.specs.declared.ids.PointId.{PointId}
use Rattle.private_elim.specs.Locals.{is_private_in}
use Rattle.reduction_tests.proofs.calls.are_private.Given as goal

abbrev pub invariant-loop-p : goal.invariant-loop-p
invariant-loop-p l = AllByRecursion (λ (p : PointId). is_private_in l.local p.0 ≡ true) (take l.p-index l.order)
