use Rattle.std.proofs.Common.{sym, subst}
use Rattle.stn_model.specs.Limits.{most_points}
use Rattle.stn_model.specs.Valid.{IsArcWithin}
use Rattle.private_elim.proofs.locals.Within.{arc_within}
use Rattle.private_elim.proofs.arc_list.LocalArcList.arc_at.Goals as goal

pub returns-clause-within : goal.returns-clause-within
returns-clause-within c =
    let v = c.args.self.now in
    subst (λ a. IsArcWithin most_points a.arc) (sym c.arc.ensures) (arc_within v c.size-facts.ensures.valid c.args.n c.requires)
