use Rattle.dispatcher.proofs.Fallen.{falls_on, safe_on}
use Rattle.dispatcher.proofs.falling.settle.Goals as goal

pub sweep-requires : goal.sweep-requires
sweep-requires c = safe_on _ _ _ c.requires c.rounds.invariant

pub first_broken-requires : goal.first_broken-requires
first_broken-requires c = safe_on _ _ _ c.requires (falls_on _ _ _ _ c.rounds.invariant c.sweep.ensures)

pub returns-in_default-clause-falls : goal.returns-in_default-clause-falls
returns-in_default-clause-falls c = falls_on _ _ _ _ c.rounds.invariant c.sweep.ensures

pub lower-requires-clause-safe : goal.lower-requires-clause-safe
lower-requires-clause-safe c = safe_on _ _ _ c.requires (falls_on _ _ _ _ c.rounds.invariant c.sweep.ensures)

pub rounds-preserved : goal.rounds-preserved
rounds-preserved c = falls_on _ _ _ _ c.rounds.invariant (falls_on _ _ _ _ c.sweep.ensures c.lower.ensures.falls)
