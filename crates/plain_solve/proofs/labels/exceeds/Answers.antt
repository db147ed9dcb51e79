use Rattle.std.proofs.Common.{arith}
use Rattle.std.proofs.lemmas.Int.{ints}
use Rattle.plain_solve.proofs.labels.exceeds.Goals as goal

pub returns : goal.returns
returns c = (λ h. omega (arith, ints), λ h. grind (arith, ints))
