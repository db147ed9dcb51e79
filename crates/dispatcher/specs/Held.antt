-- How the fields of a plan are seen, and what is true of them: plan_view, IsHeld.
use Rattle.std.specs.Prelude.{◌≡◌, map}
use Rattle.private_elim.specs.Locals.{arcs_in}
use Rattle.dispatcher.specs.declared.plan.Plan.TheInside.{Inside}
use Rattle.dispatcher.specs.Plans.{PlanView}
use Rattle.dispatcher.specs.Standing.{exchanged, IsStanding}

-- what contracts see of the fields
abbrev pub plan_view : Inside → PlanView
plan_view d = record { local = d.local; lean = d.lean; choices = d.choices.items }

-- the arcs are those of the local network, the others are the same turned round, and the tables stand for the choices
pub record IsHeld (d : Inside) : Type 0 where
  pub arcs : d.arcs.items ≡ arcs_in d.local
  pub turned : d.turned.items ≡ map exchanged (arcs_in d.local)
  pub standing : IsStanding (arcs_in d.local) d.local.points d.choices.items d.latest.items d.early.items
