-- The lines so far, and those of the points that are left, are the lines of all.
use Rattle.std.proofs.Common.{◌≡◌, ◌++◌, drop}
use Rattle.net_text.specs.Plain.{HasFront}
use Rattle.elim_journal.specs.Lines.{private_lines}
use Rattle.elim_journal.proofs.print.add_points.Given as goal

abbrev pub invariant-loop-point : goal.invariant-loop-point
invariant-loop-point l = record {
  lines : l.out.items ++ private_lines l.net (drop l.point-index l.points) ≡ l.fn.out.items ++ private_lines l.net l.points;
  kept : HasFront l.fn.out.items l.out.items;
}
