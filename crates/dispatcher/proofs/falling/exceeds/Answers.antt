use Rattle.std.proofs.Common.{arith}
use Rattle.std.proofs.lemmas.Int.{ints}
use Rattle.dispatcher.proofs.falling.exceeds.Goals as goal

pub returns : goal.returns
returns c =
    let bound = c.from.ensures in
    (λ h. omega (arith, ints), λ h. grind (arith, ints))
