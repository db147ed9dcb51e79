use Rattle.std.proofs.Common.{◌<◌, sym, subst, ◌∙◌, arith}
use Rattle.std.specs.List.{AllPairs}
use Rattle.std.proofs.lemmas.List.{take_all}
use Rattle.private_elim.proofs.sweep.Bounds.{pairs-from_rises}
use Rattle.private_elim.proofs.locals.LocalFacts.{rises}
use Rattle.private_elim.proofs.back_start.points_by_place.Goals as goal

pub returns-clause-rising : goal.returns-clause-rising
returns-clause-rising c =
    let v = c.args.local.now in
    let whole = take_all c.loop-place.place v.points (omega (arith, c.loop-place-test.false, c.size-place-end.ensures.count)) in
    subst (AllPairs (λ p q. p < q)) (sym (c.loop-place.invariant.0 ∙ whole)) (pairs-from_rises v.points (rises v c.size.ensures.valid))
