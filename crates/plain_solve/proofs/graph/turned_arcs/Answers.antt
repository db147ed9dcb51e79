use Rattle.std.proofs.Common.{◌∙◌, arith}
use Rattle.stn_model.specs.Net.{arcs_of}
use Rattle.plain_solve.proofs.GraphLemmas.{turned_more}
use Rattle.plain_solve.proofs.graph.turned_arcs.Goals as goal

pub loop-n-preserved : goal.loop-n-preserved
loop-n-preserved c =
    c.in_ok-push.ensures.items
    ∙ turned_more (arcs_of c.args.net.now) c.loop-n.arcs.items c.loop-n.n c.arc-arc.result c.turn-turned.result (omega arith) c.loop-n.invariant c.arc-arc.ensures.arc c.turn-turned.ensures
