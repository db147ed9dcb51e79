-- The lines so far, and those of the acts that are left, are the lines of all.
use Rattle.std.proofs.Common.{◌≡◌, ◌-◌, ◌++◌, length}
use Rattle.std.specs.List.{flat_map, range_with_len}
use Rattle.net_text.specs.Plain.{HasFront}
use Rattle.schedule_report.specs.Lines.{act_line}
use Rattle.schedule_report.proofs.times.add_acts.Given as goal

abbrev pub invariant-loop-act : goal.invariant-loop-act
invariant-loop-act l = record {
  lines : l.out.items ++ flat_map (act_line l.net l.schedule) (range_with_len l.act (length l.net.acts - l.act))
      ≡ l.fn.out.items ++ flat_map (act_line l.net l.schedule) (range_with_len 0 (length l.net.acts));
  kept : HasFront l.fn.out.items l.out.items;
}
