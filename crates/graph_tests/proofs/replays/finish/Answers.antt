use Rattle.std.proofs.Common.{subst}
use Rattle.shared_graph.specs.Histories.{AreFitting}
use Rattle.shared_graph.specs.Interfaces.{InterfaceView}
use Rattle.graph_tests.proofs.replays.finish.Goals as goal

pub finish_with-requires-clause-fitting : goal.finish_with-requires-clause-fitting
finish_with-requires-clause-fitting c =
    subst (λ (face : InterfaceView). AreFitting face c.as_slice-list.result.now) c.interface-else-not-on.ensures.face
    (c.are_fitting.ensures.fitting c.if-not-are_fitting.false)

pub finish_with-requires-clause-agree : goal.finish_with-requires-clause-agree
finish_with-requires-clause-agree c = (c.in_ok-on.ensures c.if-not-on.false).agree
