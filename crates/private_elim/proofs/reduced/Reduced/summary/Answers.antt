use Rattle.private_elim.proofs.reduced.Reduced.summary.Goals as goal

pub returns-clause-part : goal.returns-clause-part
returns-clause-part c = rw (← c.self.view_is) c.self.invariant.part_sums_up

pub returns-clause-none_below : goal.returns-clause-none_below
returns-clause-none_below c = rw (← c.self.view_is) c.self.invariant.none_below
