use Rattle.private_elim.proofs.taking.Takes.{facts}
use Rattle.private_elim.proofs.elimination.Elimination.size.Goals as goal

pub returns-clause-facts : goal.returns-clause-facts
returns-clause-facts g c = rw (← c.self.view_is) (facts _ _ _ _ _ c.self.invariant.taken)
