use Rattle.std.proofs.Common.{refl}
use Rattle.tri_solve.proofs.laws.up_alone_is_too_high.Goals as goal

pub returns : goal.returns
returns c = (refl, refl)
