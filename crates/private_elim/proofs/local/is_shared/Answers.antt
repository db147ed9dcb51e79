use Rattle.private_elim.proofs.locals.SharedPoints.{unshared}
use Rattle.private_elim.proofs.local.is_shared.Goals as goal

pub returns-in_default : goal.returns-in_default
returns-in_default c = unshared c.args.net.now c.args.point.0 c.kind.result c.in_default.not-Shared c.kind.ensures
