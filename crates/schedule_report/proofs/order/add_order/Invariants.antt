-- The lines so far, and those of the points that are left, are the lines of all.
use Rattle.std.proofs.Common.{◌≡◌, ◌++◌, drop}
use Rattle.net_text.specs.Plain.{HasFront}
use Rattle.schedule_report.specs.Parts.{order_lines}
use Rattle.schedule_report.proofs.order.add_order.Given as goal

abbrev pub invariant-loop-point : goal.invariant-loop-point
invariant-loop-point l = record {
  lines : l.out.items ++ order_lines l.net (drop l.point-index l.order) ≡ l.fn.out.items ++ order_lines l.net l.order;
  kept : HasFront l.fn.out.items l.out.items;
}
