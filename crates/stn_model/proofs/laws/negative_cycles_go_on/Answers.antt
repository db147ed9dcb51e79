use Rattle.std.proofs.Common.{arith}
use Rattle.std.proofs.lemmas.Int.{ints}
use Rattle.stn_model.proofs.laws.negative_cycles_go_on.Goals as goal

pub returns : goal.returns
returns c = λ arcs n. let low = n.negative in absurd (omega (arith, ints))
