use Rattle.std.proofs.Common.{◌≡◌, ap, sym, ◌∙◌, arith, map}
use Rattle.stn_model.specs.declared.ids.PointId.{PointId}
use Rattle.reduction_tests.proofs.Listed.{whole_from_places, places_more}
use Rattle.reduction_tests.proofs.calls.are_whole.Goals as goal

pub returns : goal.returns
returns c t =
    whole_from_places c.args.local.now (map (λ (p : PointId). p.0) c.args.order.now)
    (λ k lk private. let end = c.loop-place-test.false in let size = c.size-place-end.ensures.count in c.loop-place.invariant k (omega arith) private)
