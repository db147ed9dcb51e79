use Rattle.std.proofs.Common.{length, arith}
use Rattle.schedule_report.specs.Lines.{act_line}
use Rattle.net_text.proofs.Fronts.{front_on}
use Rattle.schedule_report.proofs.Lists.{line_added}
use Rattle.schedule_report.proofs.times.add_acts.Goals as goal

pub loop-act-preserved : goal.loop-act-preserved
loop-act-preserved c = record {
  lines = line_added (act_line c.args.net.now c.args.schedule.now) c.loop-act.act (length c.args.net.now.acts) _ c.loop-act.out.items c.add_act.new.out.items
      (omega arith) c.loop-act.invariant.lines c.in_ok-add_act.ensures.ok;
  kept = front_on c.args.out.now.items c.loop-act.out.items c.add_act.new.out.items c.loop-act.invariant.kept c.add_act.ensures.kept;
}
