use Rattle.std.proofs.Common.{refl}
use Rattle.shared_graph.proofs.laws.examples_hold.Goals as goal

pub returns : goal.returns
returns c = (refl, refl, refl, refl, refl, refl, refl, refl, refl, refl)
