use Rattle.dispatcher.proofs.Fallen.{falls_on, safe_on}
use Rattle.dispatcher.proofs.falling.sweep.Goals as goal

pub look-requires-clause-safe : goal.look-requires-clause-safe
look-requires-clause-safe c = safe_on _ _ _ c.requires c.loop-n.invariant

pub loop-n-preserved : goal.loop-n-preserved
loop-n-preserved c = falls_on _ _ _ _ c.loop-n.invariant c.look.ensures
