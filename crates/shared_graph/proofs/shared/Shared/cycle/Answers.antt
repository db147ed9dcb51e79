use Rattle.shared_graph.proofs.graphs.Histories.{stops_exclude}
use Rattle.shared_graph.proofs.shared.Shared.cycle.Goals as goal

pub returns-clause-inconsistent : goal.returns-clause-inconsistent
returns-clause-inconsistent c = stops_exclude c.args.self.now c.stop.result (rw (← c.self.view_is) c.stop.ensures)
