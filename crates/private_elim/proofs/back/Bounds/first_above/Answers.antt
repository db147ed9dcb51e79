use Rattle.std.proofs.Common.{Ok, Err}
use Rattle.private_elim.proofs.sweep.Bounds.{rises-from_pairs}
use Rattle.private_elim.proofs.locals.Searches.{searched_above}
use Rattle.private_elim.proofs.back.Bounds.first_above.Goals as goal

pub returns-in-Ok-clause-below : goal.returns-in-Ok-clause-below
returns-in-Ok-clause-below g c =
    let b = c.self.inside in
    let found =
    searched_above b.points.items c.deref.result.now c.in-Some.after.0 (Ok c.in-Ok.place) c.deref.ensures.value
    (rises-from_pairs b.points.items c.self.invariant.2) c.in-Ok.ensures.position in
    rw (← c.self.view_is, c.in-Some.is) found.1

pub returns-in-Ok-clause-above : goal.returns-in-Ok-clause-above
returns-in-Ok-clause-above g c =
    let b = c.self.inside in
    let found =
    searched_above b.points.items c.deref.result.now c.in-Some.after.0 (Ok c.in-Ok.place) c.deref.ensures.value
    (rises-from_pairs b.points.items c.self.invariant.2) c.in-Ok.ensures.position in
    rw (← c.self.view_is, c.in-Some.is) found.2

pub returns-in-Err-clause-below : goal.returns-in-Err-clause-below
returns-in-Err-clause-below g c =
    let b = c.self.inside in
    let found =
    searched_above b.points.items c.deref.result.now c.in-Some.after.0 (Err c.in-Err.place) c.deref.ensures.value
    (rises-from_pairs b.points.items c.self.invariant.2) c.in-Err.ensures.position in
    rw (← c.self.view_is, c.in-Some.is) found.1

pub returns-in-Err-clause-above : goal.returns-in-Err-clause-above
returns-in-Err-clause-above g c =
    let b = c.self.inside in
    let found =
    searched_above b.points.items c.deref.result.now c.in-Some.after.0 (Err c.in-Err.place) c.deref.ensures.value
    (rises-from_pairs b.points.items c.self.invariant.2) c.in-Err.ensures.position in
    rw (← c.self.view_is, c.in-Some.is) found.2
