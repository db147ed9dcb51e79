use Rattle.std.proofs.Common.{◌≡◌, ℕ, ◌<◌, ◌≤◌, length, sym, subst, ◌∙◌, arith, is_some, true}
use Rattle.std.specs.List.{Contains}
use Rattle.private_elim.specs.Locals.{LocalView, arcs_in}
use Rattle.dispatcher.specs.Choices.{IsScheduleOf, choice_at, times_of}
use Rattle.dispatcher.specs.Plans.{agent_points}
use Rattle.dispatcher.proofs.Fillings.{fills_next, all_filled}
use Rattle.dispatcher.proofs.plan.Plan.complete.Goals as goal

pub loop-place-preserved : goal.loop-place-preserved
loop-place-preserved g c =
    let inv = c.loop-place.invariant in
    let lt : c.loop-place.place < length c.args.self.now.local.points = omega (arith, c.size-place-end.ensures.count, c.loop-place-test.true) in (
      c.fill.ensures.local ∙ inv.0,
      c.fill.ensures.lean ∙ inv.1,
      fills_next _ c.loop-place.self.local c.args.self.now.local c.loop-place.self.lean c.args.self.now.lean c.args.self.now.choices c.loop-place.self.choices
          c.fill.new.self.choices c.loop-place.place inv.0 inv.1 lt c.fill.ensures.sets c.fill.ensures.chosen inv.2,
    )

pub returns-clause-all : goal.returns-clause-all
returns-clause-all g c =
    let inv = c.loop-place.invariant in
    let past : length c.args.self.now.local.points ≤ c.loop-place.place = omega (arith, c.size-place-end.ensures.count, c.loop-place-test.false) in
    all_filled _ (arcs_in c.args.self.now.local) c.args.self.now.lean c.args.self.now.local.points c.args.self.now.choices c.loop-place.self.choices
    c.loop-place.place past inv.2

pub returns-clause-schedule : goal.returns-clause-schedule
returns-clause-schedule g c =
    let inv = c.loop-place.invariant in
    let past : length c.args.self.now.local.points ≤ c.loop-place.place = omega (arith, c.size-place-end.ensures.count, c.loop-place-test.false) in
    let all = all_filled _ (arcs_in c.args.self.now.local) c.args.self.now.lean c.args.self.now.local.points c.args.self.now.choices c.loop-place.self.choices
    c.loop-place.place past inv.2 in
    subst (λ (v : LocalView). IsScheduleOf (arcs_in v) (times_of c.loop-place.self.choices)) inv.0
    (c.know.ensures
    (subst (λ (v : LocalView). (p : ℕ) → Contains (agent_points v) p → is_some (choice_at c.loop-place.self.choices p) ≡ true) (sym inv.0) all))
