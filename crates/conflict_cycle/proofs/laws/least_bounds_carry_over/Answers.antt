use Rattle.conflict_cycle.proofs.IsolatedBounds.{least_bounds_carry_over}
use Rattle.conflict_cycle.proofs.laws.least_bounds_carry_over.Goals as goal

pub returns : goal.returns
returns c = least_bounds_carry_over
