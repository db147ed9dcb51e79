use Rattle.std.proofs.Common.{◌≡◌, ℕ, ◌<◌, ℤ, length, set, to_z, of_z, sym, subst, ◌∙◌, arith, Some, is_some, false, inr}
use Rattle.std.specs.Int.{w128}
use Rattle.std.proofs.lemmas.Int.{ints}
use Rattle.std.proofs.lemmas.List.{get_or_default}
use Rattle.elim_step.specs.Eliminated.{point_at}
use Rattle.private_elim.specs.Locals.{arcs_in}
use Rattle.dispatcher.specs.Choices.{HasWindow, choice_at}
use Rattle.dispatcher.proofs.Fillings.{takes_answer}
use Rattle.dispatcher.proofs.plan.Plan.fill.Goals as goal

pub keep-requires-clause-point : goal.keep-requires-clause-point
keep-requires-clause-point g c =
    let d = c.self.inside in
    let lt : c.args.place < length d.local.points = (rw (← c.self.view_is) at c.requires) in
    rw (← c.self.view_is) (c.args.place, lt, get_or_default d.local.points c.args.place c.point-p.result.0 0 lt ∙ sym c.point-p.ensures)

pub keep-requires-clause-within : goal.keep-requires-clause-within
keep-requires-clause-within g c =
    let low = c.window-lo.ensures.low in
    let ordered = c.window-lo.ensures.ordered in
    let high = c.window-lo.ensures.high in
    let above = c.answer-t.ensures.low in
    let below = c.answer-t.ensures.high in
    (c.window-lo.result.0, c.window-lo.result.1, c.window-lo.ensures.window, omega (arith, ints), omega (arith, ints))

pub returns-clause-sets : goal.returns-clause-sets
returns-clause-sets g c =
    let d = c.self.inside in
    let p = c.point-p.result.0 in
    let t = c.answer-t.result in
    let time : c.time.result ≡ choice_at d.choices.items p = (rw (← c.self.view_is) at c.time.ensures) in
    let none : is_some c.time.result ≡ false = sym c.is_some.ensures ∙ c.if-is_some.false in
    let window : HasWindow (arcs_in d.local) d.choices.items p c.window-lo.result.0 c.window-lo.result.1 = (rw (← c.self.view_is) at c.window-lo.ensures.window) in
    let low = c.window-lo.ensures.low in
    let ordered = c.window-lo.ensures.ordered in
    let high = c.window-lo.ensures.high in
    let above = c.answer-t.ensures.low in
    let below = c.answer-t.ensures.high in
    let same : to_z w128 (of_z w128 t) ≡ t = omega (arith, ints) in
    let lo : ℤ = to_z w128 (of_z w128 c.window-lo.result.0) in
    let hi : ℤ = to_z w128 (of_z w128 c.window-lo.result.1) in
    let lo_is : c.window-lo.result.0 ≡ lo = omega (arith, ints) in
    let hi_is : c.window-lo.result.1 ≡ hi = omega (arith, ints) in
    let window_too : HasWindow (arcs_in d.local) d.choices.items p lo hi =
    subst (λ (x : ℤ). HasWindow (arcs_in d.local) d.choices.items p lo x) hi_is
    (subst (λ (x : ℤ). HasWindow (arcs_in d.local) d.choices.items p x c.window-lo.result.1) lo_is window) in
    let now : c.keep.new.self.choices ≡ set d.choices.items p (Some (to_z w128 (of_z w128 t))) = (rw (← c.self.view_is) at c.keep.ensures.choices) in
    rw (← c.self.view_is)
    (inr (takes_answer _ (arcs_in d.local) d.lean d.choices.items p (point_at d.local.points c.args.place) c.keep.new.self.choices c.time.result
    lo hi t c.point-p.ensures time none window_too c.answer-t.ensures.answer
    (subst (λ (x : ℤ). c.keep.new.self.choices ≡ set d.choices.items p (Some x)) same now)))
