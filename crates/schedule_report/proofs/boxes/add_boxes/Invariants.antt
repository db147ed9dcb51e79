-- The lines so far, and those of the boxes that are left, are the whole part.
use Rattle.std.proofs.Common.{◌≡◌, ◌++◌, drop}
use Rattle.std.specs.List.{flat_map}
use Rattle.net_text.specs.Plain.{HasFront}
use Rattle.schedule_report.specs.Lines.{box_line}
use Rattle.schedule_report.specs.Parts.{boxes_part}
use Rattle.schedule_report.proofs.boxes.add_boxes.Given as goal

abbrev pub invariant-loop-entry : goal.invariant-loop-entry
invariant-loop-entry l = record {
  lines : l.out.items ++ flat_map (box_line l.net) (drop l.entry-index l.boxes) ≡ l.fn.out.items ++ boxes_part l.net l.boxes;
  kept : HasFront l.fn.out.items l.out.items;
}
