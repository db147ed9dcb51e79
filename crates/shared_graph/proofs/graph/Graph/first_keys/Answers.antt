use Rattle.elim_step.specs.Ranked.{key_at}
use Rattle.shared_graph.proofs.graphs.Relaying.{shut_keys}
use Rattle.shared_graph.proofs.graph.Graph.first_keys.Goals as goal

pub returns-else-is_order_done-clause-keys : goal.returns-else-is_order_done-clause-keys
returns-else-is_order_done-clause-keys g c =
    shut_keys c.args.self.now.face c.args.self.now.state (key_at c.args.ready.now) c.requires.none (c.is_order_done.ensures c.if-is_order_done.false)
