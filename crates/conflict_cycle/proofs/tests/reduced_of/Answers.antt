use Rattle.std.proofs.Common.{ap, sym, ◌∙◌}
use Rattle.private_elim.specs.Locals.{LocalView, local_of}
use Rattle.private_elim.proofs.locals.LocalFacts.{numbered_of_net}
use Rattle.conflict_cycle.proofs.tests.reduced_of.Goals as goal

pub eliminate_private-requires : goal.eliminate_private-requires
eliminate_private-requires c = record {
  numbered = numbered_of_net c.in_ok-local.local c.args.net.now
      (c.in_ok-local.ensures ∙ ap (λ (v : LocalView). local_of c.args.net.now v.agent) (sym c.in_ok-local.ensures));
}
