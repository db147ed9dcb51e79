use Rattle.std.proofs.Common.{arith}
use Rattle.shared_graph.proofs.graphs.Publishers.{pairs_more, valid_at}
use Rattle.shared_graph.proofs.lay.agent_arcs.Goals as goal

pub loop-point-preserved : goal.loop-point-preserved
loop-point-preserved c =
    pairs_more c.args.interface.now c.args.agent.0 c.points-point-items.result.now c.loop-point.point-index (record { 0 = 0 }) c.loop-point.arcs.items
    c.push_horizon.new.arcs.items (omega arith) c.loop-point.invariant c.in_ok-push_horizon.ensures

pub arc_of-requires : goal.arc_of-requires
arc_of-requires c =
    let entries = c.entries-entry-items in
    valid_at entries.result.now c.loop-entry.entry-index _ (rw (← entries.ensures.value) at entries.ensures.valid) (omega arith)
