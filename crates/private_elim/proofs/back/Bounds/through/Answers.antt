use Rattle.std.proofs.Common.{Some, sym, ap, subst, ◌∙◌, length}
use Rattle.private_elim.specs.Throughs.{IsThrough, point_of_via, point_through}
use Rattle.private_elim.proofs.sweep.Throughs.{place_of_through}
use Rattle.private_elim.proofs.back.Bounds.through.Goals as goal

pub unreachable-requires : goal.unreachable-requires
unreachable-requires g c =
    let there = place_of_through (length c.args.self.now.points) c.in-Some.cell.via c.in-Some.ensures.through in
    c.in_default-via.not-Through there.0 there.1

pub point-requires : goal.point-requires
point-requires g c = subst (IsThrough (length c.args.self.now.points)) c.in-Through.is c.in-Some.ensures.through

pub returns-clause-value : goal.returns-clause-value
returns-clause-value g c =
    let points = c.args.self.now.points in
    ap Some c.point.ensures.value ∙ ap (point_of_via points) (sym c.in-Through.is) ∙ ap (point_through points) c.in-Some.ensures.value
