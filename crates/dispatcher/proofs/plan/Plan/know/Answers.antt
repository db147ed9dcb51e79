use Rattle.private_elim.specs.Locals.{arcs_in}
use Rattle.private_elim.proofs.locals.LocalFacts.{z_first}
use Rattle.dispatcher.proofs.Fillings.{chosen_times}
use Rattle.dispatcher.proofs.plan.Plan.know.Goals as goal

pub returns : goal.returns
returns c =
    let d = c.self.inside in
    rw (← c.self.view_is) (chosen_times (arcs_in d.local) d.local.points d.choices.items d.latest.items d.early.items c.self.invariant.standing
    (z_first d.local c.size-size.ensures.valid))
