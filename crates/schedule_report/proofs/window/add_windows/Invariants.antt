-- The lines so far, and those of the windows that are left, are the whole part.
use Rattle.std.proofs.Common.{◌≡◌, ◌++◌, drop}
use Rattle.std.specs.List.{flat_map}
use Rattle.net_text.specs.Plain.{HasFront}
use Rattle.schedule_report.specs.Lines.{window_line}
use Rattle.schedule_report.specs.Parts.{windows_part}
use Rattle.schedule_report.proofs.window.add_windows.Given as goal

abbrev pub invariant-loop-window : goal.invariant-loop-window
invariant-loop-window l = record {
  lines : l.out.items ++ flat_map (window_line l.net) (drop l.window-index l.windows) ≡ l.fn.out.items ++ windows_part l.net l.windows;
  kept : HasFront l.fn.out.items l.out.items;
}
