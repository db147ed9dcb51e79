use Rattle.std.proofs.Common.{Ok, Err, sym, arith}
use Rattle.private_elim.specs.Views.{local_view}
use Rattle.private_elim.proofs.locals.LocalFacts.{rises, few_points}
use Rattle.private_elim.proofs.locals.Searches.{searched_place}
use Rattle.private_elim.proofs.local.Local.place_of.Goals as goal

pub overflow_cast-result : goal.overflow_cast-result
overflow_cast-result c =
    let l = local_view c.self.inside in
    let found =
    searched_place l.points c.deref.result.now c.args.point.0 (Ok c.in-Ok.place) c.deref.ensures.value
    (rises l c.self.invariant.local) c.in-Ok.ensures.position in
    omega (arith, found.0, few_points l c.self.invariant.local)

pub returns-in-Ok : goal.returns-in-Ok
returns-in-Ok c =
    let l = local_view c.self.inside in
    let found =
    searched_place l.points c.deref.result.now c.args.point.0 (Ok c.in-Ok.place) c.deref.ensures.value
    (rises l c.self.invariant.local) c.in-Ok.ensures.position in
    rw (← c.self.view_is) (sym found.1)

pub returns-in-Err : goal.returns-in-Err
returns-in-Err c =
    let l = local_view c.self.inside in
    rw (← c.self.view_is) (sym (searched_place l.points c.deref.result.now c.args.point.0 (Err c.in-Err.field-0) c.deref.ensures.value
    (rises l c.self.invariant.local) c.in-Err.ensures.position))
