use Rattle.std.proofs.lemmas.Bool.{false≢true}
use Rattle.stn_model.specs.Net.{arcs_of, point_count}
use Rattle.stn_model.proofs.WalkLemmas.{no_schedule}
use Rattle.plain_solve.proofs.solve.inconsistent.Goals as goal

pub returns-clause-exactly : goal.returns-clause-exactly
returns-clause-exactly c =
    (λ t. absurd (false≢true t), λ s. absurd (no_schedule (arcs_of c.args.net.now) (point_count c.args.net.now) c.in_ok-cycle.cycle c.in_ok-cycle.ensures.cycle s))
