use Rattle.std.proofs.Common.{sym, ap, ◌∙◌}
use Rattle.std.proofs.lemmas.Bool.{false≢true}
use Rattle.private_elim.specs.Locals.{private_at}
use Rattle.private_elim.proofs.locals.Places.{place_found, place_missing}
use Rattle.private_elim.proofs.taking.Takes.{local_ground}
use Rattle.private_elim.proofs.back_start.seen_place.Goals as goal

pub returns-in_default-clause-none : goal.returns-in_default-clause-none
returns-in_default-clause-none c k lt seen = place_missing c.args.local.now.points c.args.point.0 (sym c.in_default.ensures) k lt

pub is_private-requires : goal.is_private-requires
is_private-requires c = (place_found c.args.local.now.points c.args.point.0 c.in-Some.place (sym c.in-Some.ensures)).0

pub returns-then-is_private-clause-none : goal.returns-then-is_private-clause-none
returns-then-is_private-clause-none c k lt seen is =
    let v = c.args.local.now in
    let found = place_found v.points c.args.point.0 c.in-Some.place (sym c.in-Some.ensures) in
    let same = (local_ground v c.requires.known).apart k c.in-Some.place lt found.0 (is ∙ sym found.1) in
    false≢true (sym seen ∙ ap (private_at v) same ∙ sym c.is_private.ensures ∙ c.if-is_private.true)

pub returns-clause-some : goal.returns-clause-some
returns-clause-some c =
    let found = place_found c.args.local.now.points c.args.point.0 c.in-Some.place (sym c.in-Some.ensures) in
    (found.0, sym c.is_private.ensures ∙ c.if-is_private.false, found.1)
