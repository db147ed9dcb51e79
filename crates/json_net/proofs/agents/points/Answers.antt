-- Each item adds what it says.
use Rattle.std.proofs.Common.{◌∙◌, arith}
use Rattle.json_net.specs.Networks.{read_point}
use Rattle.json_net.proofs.Loops.{item_read}
use Rattle.json_net.proofs.agents.points.Goals as goal

pub loop-i-preserved : goal.loop-i-preserved
loop-i-preserved c =
    record {
      said =
          c.loop-i.invariant.said
          ∙ item_read (read_point c.args.agent.0) c.args.path c.loop-i.net c.deref-item-items.result.now c.loop-i.i
          c.item-item.result c.item_step-step.result c.then.result
          c.point.new.net c.loop-i-test.true c.item-item.is c.item_step-step.ensures c.then.ensures c.in_ok-point.ensures.said;
      few = omega (arith, c.loop-i.invariant.few, c.in_ok-point.ensures.grows);
      agents = c.in_ok-point.ensures.agents ∙ c.loop-i.invariant.agents;
    }
