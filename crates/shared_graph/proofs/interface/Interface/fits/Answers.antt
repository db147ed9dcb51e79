use Rattle.std.proofs.Common.{refl, ap, length, arith}
use Rattle.shared_graph.proofs.interfaces.Fitting.{all_fit}
use Rattle.shared_graph.proofs.interface.Interface.fits.Goals as goal

pub returns : goal.returns
returns c = (
  λ _. all_fit c.args.self.now c.args.agent.0 c.loop-entry.entry-index c.args.summary.now c.entries-entry-items.ensures.valid
      (omega (arith, c.loop-entry-test.false, c.loop-entry.auto.entry-index-end, ap length c.entries-entry-items.ensures.value)) c.loop-entry.invariant,
  λ _. refl,
)
