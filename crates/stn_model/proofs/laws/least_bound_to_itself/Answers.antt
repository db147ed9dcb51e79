use Rattle.std.proofs.Common.{refl, [], arith}
use Rattle.std.proofs.lemmas.Int.{ints}
use Rattle.stn_model.proofs.laws.least_bound_to_itself.Goals as goal

pub returns : goal.returns
returns c = λ arcs points i s. record { walk = []; is_walk = refl; weighs = refl; times = s.0; satisfies = s.1; attains = omega (arith, ints) }
