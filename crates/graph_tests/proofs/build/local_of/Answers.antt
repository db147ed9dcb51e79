use Rattle.std.proofs.Common.{ap, sym, ◌∙◌}
use Rattle.private_elim.specs.Locals.{LocalView, local_of}
use Rattle.private_elim.proofs.locals.LocalFacts.{numbered_of_net}
use Rattle.graph_tests.proofs.build.local_of.Goals as goal

pub returns : goal.returns
returns c =
    numbered_of_net c.in_ok-local.local c.args.net.now
    (c.in_ok-local.ensures ∙ ap (λ (v : LocalView). local_of c.args.net.now v.agent) (sym c.in_ok-local.ensures))
