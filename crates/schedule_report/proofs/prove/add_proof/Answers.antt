use Rattle.std.proofs.Common.{◌≡◌, to_z, of_z, arith}
use Rattle.std.proofs.lemmas.Int.{ints}
use Rattle.std.specs.Int.{w128}
use Rattle.std.proofs.lemmas.Result.{on_ok_weaker}
use Rattle.schedule_report.specs.Parts.{arc_lines, times_part}
use Rattle.schedule_report.proofs.Lists.{three_added}
use Rattle.schedule_report.proofs.prove.add_proof.Goals as goal

pub returns-clause-ok : goal.returns-clause-ok
returns-clause-ok c =
    let range = c.ranges.bound.sfits in
    let fits : to_z w128 (of_z w128 c.args.bound) ≡ c.args.bound = omega (arith, ints, range) in
    on_ok_weaker c.add_times.result
    (three_added c.args.out.now.items c.add_bound.new.out.items c.add_arcs.new.out.items c.add_times.new.out.items _
    (arc_lines c.args.net.now c.args.walk.now) (times_part c.args.net.now c.args.schedule.now) (rw (c.arcs-arcs.ensures, fits) at c.in_ok-add_bound.ensures.ok)
    (rw c.arcs-arcs.ensures at c.in_ok-add_arcs.ensures.ok))
    c.add_times.ensures.ok
