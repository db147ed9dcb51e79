use Rattle.std.specs.Prelude.{reverse}
use Rattle.private_elim.proofs.elimination.Elimination.unfold.Given as goal

abbrev pub ghost-leaves : goal.ghost-leaves
ghost-leaves g a = record { points = a.self.now.local.points; es = reverse a.self.now.order }
