use Rattle.std.proofs.Common.{◌≡◌, ℕ, ◌<◌, ◌≤◌, ◌-◌, length, ⊎_elim, ap, ◌∙◌, arith}
use Rattle.std.proofs.lemmas.Bool.{cases_lt}
use Rattle.std.proofs.lemmas.List.{get_or_default}
use Rattle.elim_step.specs.Eliminated.{point_at}
use Rattle.private_elim.proofs.locals.LocalFacts.{rises}
use Rattle.dispatcher.proofs.plan.labels_of.Goals as goal

pub returns-clause-above : goal.returns-clause-above
returns-clause-above c = λ p there.
    let points = c.args.local.now.points in
    let count = c.size.ensures.count in
    let at : point_at points there.0 ≡ p = get_or_default points there.0 0 p there.1 ∙ there.2 in
    let last = c.point-last.ensures in
    let lt = there.1 in
    ⊎_elim
    (λ (less : there.0 < length points - 1).
    let more = rises c.args.local.now c.size.ensures.valid there.0 (length points - 1) less (omega arith) in
    let same = ap (λ (n : ℕ). point_at points (n - 1)) count in
    omega arith)
    (λ (end : length points - 1 ≤ there.0).
    let same : there.0 ≡ c.size.result - 1 = omega arith in
    let here = ap (point_at points) same in
    omega arith)
    (cases_lt there.0 (length points - 1))
