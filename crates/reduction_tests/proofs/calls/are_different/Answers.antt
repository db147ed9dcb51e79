use Rattle.std.proofs.Common.{◌≡◌, ap, sym, ◌∙◌, rules, take, map}
use Rattle.stn_model.specs.declared.ids.PointId.{PointId}
use Rattle.stn_walk.specs.Eliminations.{is_in}
use Rattle.reduction_tests.proofs.Listed.{different_more}
use Rattle.reduction_tests.proofs.calls.are_different.Goals as goal

pub loop-n-preserved : goal.loop-n-preserved
loop-n-preserved c = different_more c.args.order.now c.loop-n.n (search rules) c.loop-n.invariant (sym c.is_listed.ensures ∙ c.if-is_listed.false)
