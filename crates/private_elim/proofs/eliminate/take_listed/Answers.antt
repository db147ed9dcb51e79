use Rattle.std.proofs.Common.{◌≡◌, ap, sym, ◌∙◌, arith, map, take, subst}
use Rattle.std.specs.Prelude.{reverse, IfOk}
use Rattle.std.proofs.lemmas.List.{take_all, length-map}
use Rattle.std.proofs.lemmas.Result.{IfOk-weaker}
use Rattle.stn_model.specs.declared.ids.PointId.{PointId}
use Rattle.stn_walk.specs.Eliminations.{is_in}
use Rattle.elim_step.specs.Eliminated.{point_at}
use Rattle.private_elim.specs.Taken.{TakenView, StopsAt}
use Rattle.private_elim.specs.Locals.{LocalView, is_private_in}
use Rattle.private_elim.specs.Outcomes.{IsReducedFrom, IsConflictFrom, IsListedOutcome}
use Rattle.private_elim.proofs.taking.Choices.{listed_reduced, listed_conflict}
use Rattle.private_elim.proofs.eliminate.take_listed.Goals as goal

pub conflict-requires-clause-within : goal.conflict-requires-clause-within
conflict-requires-clause-within g c =
    let stops = (rw c.in-Some.is at c.in_ok-other.ensures.taken) in
    rw c.in_ok-other.ensures.local (c.listed_place-place.ensures.within, stops.0)

pub returns-in-Some : goal.returns-in-Some
returns-in-Some g c =
    let t = c.loop-n.elimination in
    let xs = map (λ (p : PointId). p.0) c.args.order.now in
    let q = point_at t.local.points c.in-Some.other in
    let stops = (rw c.in-Some.is at c.in_ok-other.ensures.taken) in
    let same : c.take.new.self ≡ t = (λ k. record { local = c.in_ok-other.ensures.local k; order = stops.1 k }) in
    IfOk-weaker c.conflict.result (IsConflictFrom t q) (IsListedOutcome c.args.elimination.local xs)
    (λ o h. listed_conflict c.args.elimination.local t xs c.loop-n.n q o c.loop-n.invariant.local
    (omega (arith, length-map c.args.order.now (λ (p : PointId). p.0), c.loop-n-test.true)) c.loop-n.invariant.taken
    (subst (λ x. StopsAt t.local (reverse t.order) x q) c.listed_place-place.ensures.is stops.2) h)
    (subst (λ (w : TakenView). IfOk c.conflict.result (IsConflictFrom w (point_at w.local.points c.in-Some.other))) same c.conflict.ensures)

pub reduced-requires : goal.reduced-requires
reduced-requires g c =
    let xs = map (λ (p : PointId). p.0) c.args.order.now in
    let all : take c.loop-n.n xs ≡ xs = take_all c.loop-n.n xs (omega (arith, length-map c.args.order.now (λ (p : PointId). p.0), c.loop-n-test.false)) in
    λ p private. ap (λ ys. is_in (reverse ys) p) (c.loop-n.invariant.taken ∙ all)
    ∙ c.requires.whole p (ap (λ (v : LocalView). is_private_in v p) (sym c.loop-n.invariant.local) ∙ private)

pub returns : goal.returns
returns g c =
    let xs = map (λ (p : PointId). p.0) c.args.order.now in
    let all : take c.loop-n.n xs ≡ xs = take_all c.loop-n.n xs (omega (arith, length-map c.args.order.now (λ (p : PointId). p.0), c.loop-n-test.false)) in
    IfOk-weaker c.reduced.result (IsReducedFrom c.loop-n.elimination) (IsListedOutcome c.args.elimination.local xs)
    (λ o h. listed_reduced c.args.elimination.local c.loop-n.elimination xs o c.loop-n.invariant.local (c.loop-n.invariant.taken ∙ all) h) c.reduced.ensures
