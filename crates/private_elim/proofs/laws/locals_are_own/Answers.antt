use Rattle.std.proofs.Common.{refl}
use Rattle.private_elim.specs.Locals.{local_of}
use Rattle.private_elim.proofs.locals.LocalFacts.{numbered_of_net, arcs_of_net, private_of_net, seen_of_net}
use Rattle.private_elim.proofs.laws.locals_are_own.Goals as goal

pub returns : goal.returns
returns c = λ net agent.
    let v = local_of net agent in
    (numbered_of_net v net refl, arcs_of_net v net refl, private_of_net v net refl, seen_of_net v net refl)
