use Rattle.std.proofs.Common.{sym, ◌∙◌}
use Rattle.private_elim.proofs.locals.Places.{place_found}
use Rattle.private_elim.proofs.local.Local.is_private_point.Goals as goal

pub is_private-requires : goal.is_private-requires
is_private-requires c = (place_found c.args.self.now.points c.args.point.0 c.in-Some.place (sym c.place_of.ensures ∙ c.in-Some.is)).0
