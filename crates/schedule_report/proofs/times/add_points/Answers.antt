use Rattle.std.proofs.Common.{arith}
use Rattle.stn_model.specs.Net.{point_count}
use Rattle.stn_model.specs.Schedules.{time_at}
use Rattle.net_text.proofs.Fronts.{front_on}
use Rattle.schedule_report.specs.Lines.{time_line}
use Rattle.schedule_report.proofs.Lists.{line_added}
use Rattle.schedule_report.proofs.times.add_points.Goals as goal

pub loop-point-preserved : goal.loop-point-preserved
loop-point-preserved c = record {
  lines = line_added (λ p. time_line c.args.net.now p (time_at c.args.schedule.now p)) c.loop-point.point (point_count c.args.net.now) _
      c.loop-point.out.items c.add_point.new.out.items (omega arith) c.loop-point.invariant.lines c.in_ok-add_point.ensures.ok;
  kept = front_on c.args.out.now.items c.loop-point.out.items c.add_point.new.out.items c.loop-point.invariant.kept c.add_point.ensures.kept;
}
