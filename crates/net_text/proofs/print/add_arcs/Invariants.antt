use Rattle.std.proofs.Common.{◌≡◌, ◌++◌, take}
use Rattle.std.specs.List.{flat_map}
use Rattle.net_text.specs.Plain.{arc_line}
use Rattle.net_text.proofs.print.add_arcs.Given as goal

abbrev pub invariant-loop-given : goal.invariant-loop-given
invariant-loop-given l = l.out.items ≡ l.fn.out.items ++ flat_map (arc_line l.net) (take l.given l.net.given)
