use Rattle.std.proofs.Common.{Ok, Err, sym, arith}
use Rattle.private_elim.proofs.sweep.Bounds.{rises-from_pairs}
use Rattle.private_elim.proofs.locals.Searches.{searched_place}
use Rattle.private_elim.proofs.back.Bounds.place_of.Goals as goal

pub overflow_cast-result : goal.overflow_cast-result
overflow_cast-result g c =
    let b = c.self.inside in
    let found =
    searched_place b.points.items c.deref.result.now c.args.point.0 (Ok c.in-Ok.place) c.deref.ensures.value
    (rises-from_pairs b.points.items c.self.invariant.2) c.in-Ok.ensures.position in
    omega (arith, found.0, c.self.invariant.3)

pub returns-in-Ok : goal.returns-in-Ok
returns-in-Ok g c =
    let b = c.self.inside in
    let found =
    searched_place b.points.items c.deref.result.now c.args.point.0 (Ok c.in-Ok.place) c.deref.ensures.value
    (rises-from_pairs b.points.items c.self.invariant.2) c.in-Ok.ensures.position in
    rw (← c.self.view_is) (record { value = sym found.1; within = found.0 })

pub returns-in-Err : goal.returns-in-Err
returns-in-Err g c =
    let b = c.self.inside in
    rw (← c.self.view_is) (record {
      value = sym (searched_place b.points.items c.deref.result.now c.args.point.0 (Err c.in-Err.field-0) c.deref.ensures.value
          (rises-from_pairs b.points.items c.self.invariant.2) c.in-Err.ensures.position);
      within = tt;
    })
