use Rattle.std.proofs.Common.{subst}
use Rattle.shared_graph.specs.Interfaces.{InterfaceView, IsFitting}
use Rattle.graph_tests.proofs.steps.try_publish.Goals as goal

pub publish-requires-clause-fits : goal.publish-requires-clause-fits
publish-requires-clause-fits c =
    subst (λ (f : InterfaceView). IsFitting f c.args.agent.0 c.args.summary.now) c.interface.ensures.face (c.fits.ensures.0 c.if-not-fits.false)
