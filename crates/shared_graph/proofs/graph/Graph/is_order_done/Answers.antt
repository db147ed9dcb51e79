use Rattle.std.proofs.Common.{ap, ◌∙◌}
use Rattle.std.specs.Prelude.{◌==◌}
use Rattle.shared_graph.proofs.graphs.Relaying.{shut_where}
use Rattle.shared_graph.proofs.graph.Graph.is_order_done.Goals.{then-self-eq0, else-self-eq0}
use Rattle.shared_graph.proofs.graph.Graph.is_order_done.Goals as goal

pub returns-else-self-eq0-2 : goal.returns-else-self-eq0-2
returns-else-self-eq0-2 g c =
    shut_where _ c.self.invariant c.args.self.now c.self.view_is c.if-self-eq0.value
    (λ none gone going. elim c.if-self-eq0.branch [
      | then-self-eq0 w ↦ w.value-is ∙ ap (λ n. n == 0) gone
      | else-self-eq0 w ↦ absurd (w.if-self-eq0.false none)
    ])
