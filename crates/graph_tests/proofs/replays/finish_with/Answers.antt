use Rattle.std.proofs.Common.{ap, sym, ◌∙◌, subst}
use Rattle.std.specs.Prelude.{is_some}
use Rattle.shared_graph.specs.Histories.{AreFitting}
use Rattle.shared_graph.specs.Interfaces.{InterfaceView}
use Rattle.graph_tests.proofs.Fittings.{none_done}
use Rattle.graph_tests.proofs.replays.finish_with.Goals as goal

pub finish-requires-2-clause-ready : goal.finish-requires-2-clause-ready
finish-requires-2-clause-ready c =
    none_done c.finish.new.self.state.stop (ap is_some (sym c.cycle.ensures.value) ∙ sym c.is_some.ensures ∙ c.if-is_some.false) c.in_ok-finish.ensures.done

pub finish-requires-2-clause-fitting : goal.finish-requires-2-clause-fitting
finish-requires-2-clause-fitting c =
    subst (λ (face : InterfaceView). AreFitting face c.args.summaries.now) (sym c.finish.ensures.finished.face) c.requires.fitting

pub finish-requires-2-clause-agree : goal.finish-requires-2-clause-agree
finish-requires-2-clause-agree c = c.finish.ensures.finished.agree
