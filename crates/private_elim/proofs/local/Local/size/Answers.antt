use Rattle.std.proofs.Common.{arith}
use Rattle.private_elim.specs.Views.{local_view}
use Rattle.private_elim.proofs.locals.LocalFacts.{few_points}
use Rattle.private_elim.proofs.local.Local.size.Goals as goal

pub overflow_cast-result : goal.overflow_cast-result
overflow_cast-result c = omega (arith, few_points (local_view c.self.inside) c.self.invariant.local, c.self.inside.points.ok.0)
