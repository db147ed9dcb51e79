use Rattle.std.proofs.Common.{arith, rules}
use Rattle.dist_rows.proofs.matrix.MatrixRowsRows.next_neighbour.Goals as goal

pub loop-n-init : goal.loop-n-init
loop-n-init c = λ m below above. absurd (omega (arith, (c.first_after-n.ensures m).0 above))

pub returns-then-touches-clause-some : goal.returns-then-touches-clause-some
returns-then-touches-clause-some c = (omega arith, (c.first_after-n.ensures c.loop-n.n).1 (omega arith), search rules)
