use Rattle.std.proofs.Common.{◌≡◌, ap, sym, ◌∙◌, rules, take, map}
use Rattle.std.proofs.lemmas.List.{take_all}
use Rattle.stn_model.specs.declared.ids.PointId.{PointId}
use Rattle.stn_walk.specs.Eliminations.{is_in}
use Rattle.reduction_tests.proofs.Listed.{listed_more}
use Rattle.reduction_tests.proofs.asked.is_listed.Goals as goal

pub loop-p-preserved : goal.loop-p-preserved
loop-p-preserved c = c.either-listed.ensures ∙ listed_more c.args.points.now c.loop-p.p-index c.args.point.0 c.loop-p.listed (search rules) c.loop-p.invariant
