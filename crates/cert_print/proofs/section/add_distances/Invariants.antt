use Rattle.std.proofs.Common.{◌≡◌, ◌++◌, take}
use Rattle.std.specs.List.{flat_map}
use Rattle.cert_print.specs.Texts.{distance_line}
use Rattle.cert_print.proofs.section.add_distances.Given as goal

abbrev pub invariant-loop-point : goal.invariant-loop-point
invariant-loop-point l = l.out.items ≡ l.fn.out.items ++ flat_map (distance_line l.walks) (take l.point-index l.walks.order)
