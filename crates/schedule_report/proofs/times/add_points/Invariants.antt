-- The lines so far, and those of the points that are left, are the lines of all.
use Rattle.std.proofs.Common.{◌≡◌, ◌-◌, ◌++◌, length}
use Rattle.std.specs.List.{flat_map, range_with_len}
use Rattle.stn_model.specs.Net.{point_count}
use Rattle.stn_model.specs.Schedules.{time_at}
use Rattle.net_text.specs.Plain.{HasFront}
use Rattle.schedule_report.specs.Lines.{time_line}
use Rattle.schedule_report.proofs.times.add_points.Given as goal

abbrev pub invariant-loop-point : goal.invariant-loop-point
invariant-loop-point l = record {
  lines : l.out.items ++ flat_map (λ p. time_line l.net p (time_at l.schedule p)) (range_with_len l.point (point_count l.net - l.point))
      ≡ l.fn.out.items ++ flat_map (λ p. time_line l.net p (time_at l.schedule p)) (range_with_len 1 (length l.net.places));
  kept : HasFront l.fn.out.items l.out.items;
}
