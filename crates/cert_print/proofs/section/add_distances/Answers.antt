use Rattle.std.proofs.Common.{take}
use Rattle.std.specs.List.{flat_map}
use Rattle.net_text.proofs.Fronts.{front_trans, on_err_from}
use Rattle.cert_print.specs.Texts.{distance_line}
use Rattle.cert_print.proofs.section.add_distances.Goals as goal

pub returns-in_err-add_distance-clause-err : goal.returns-in_err-add_distance-clause-err
returns-in_err-add_distance-clause-err c =
    on_err_from c.from_residual.result
    (front_trans c.args.out.now.items (flat_map (distance_line c.args.walks.now) (take c.loop-point.point-index c.args.walks.now.order)) c.loop-point.out.items
    c.add_distance.new.out.items c.loop-point.invariant c.in_err-add_distance.ensures.err)
