-- The lines so far, and those of the bounds that are left, are the whole part.
use Rattle.std.proofs.Common.{◌≡◌, ◌++◌, drop}
use Rattle.std.specs.List.{flat_map}
use Rattle.net_text.specs.Plain.{HasFront}
use Rattle.schedule_report.specs.Lines.{least_line}
use Rattle.schedule_report.specs.Parts.{bounds_part}
use Rattle.schedule_report.proofs.bounds.add_bounds.Given as goal

abbrev pub invariant-loop-edge : goal.invariant-loop-edge
invariant-loop-edge l = record {
  lines : l.out.items ++ flat_map (λ e. least_line l.net e.0.0 e.1.0 e.2) (drop l.edge-index l.edges) ≡ l.fn.out.items ++ bounds_part l.net l.edges;
  kept : HasFront l.fn.out.items l.out.items;
}
