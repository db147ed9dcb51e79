-- The lines so far, and those of the arcs that are left, are the lines of all.
use Rattle.std.proofs.Common.{◌≡◌, ◌++◌, drop}
use Rattle.net_text.specs.Plain.{HasFront}
use Rattle.schedule_report.specs.Parts.{arc_lines}
use Rattle.schedule_report.proofs.cycle.add_arcs.Given as goal

abbrev pub invariant-loop-number : goal.invariant-loop-number
invariant-loop-number l = record {
  lines : l.out.items ++ arc_lines l.net (drop l.number-index l.arcs) ≡ l.fn.out.items ++ arc_lines l.net l.arcs;
  kept : HasFront l.fn.out.items l.out.items;
}
