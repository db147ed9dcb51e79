use Rattle.std.proofs.Common.{subst}
use Rattle.shared_graph.specs.Interfaces.{Summary}
use Rattle.conflict_cycle.specs.Parts.{AreFinalsOf}
use Rattle.conflict_cycle.proofs.MadeParts.{back_more}
use Rattle.conflict_cycle.proofs.tests.swept.Goals as goal

pub loop-part-preserved : goal.loop-part-preserved
loop-part-preserved c =
    let face = c.args.shared.now.face in
    let s = c.args.shared.now.state in
    let finals = c.in_ok-finals.finals in
    back_more face s c.args.reduced.now c.loop-part.part-index c.part-item.result c.in_ok-back_sweep.field-0 c.loop-part.all.items
    c.push.new.self.items c.loop-part-test.true c.part-item.is c.in_ok-push.ensures.items (record {
      finals = finals;
      hold = subst (λ (summary : Summary). AreFinalsOf face s summary finals) c.summary.ensures.value c.in_ok-finals.ensures;
      swept = record { only = c.in_ok-back_sweep.ensures.only; least = c.in_ok-back_sweep.ensures.least };
      came = c.in_ok-back_sweep.ensures.through;
    }) c.loop-part.invariant
