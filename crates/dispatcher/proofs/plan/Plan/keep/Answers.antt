use Rattle.std.proofs.Common.{◌≡◌, ℕ, ℤ, pos, neg_ℤ, ◌-ℤ◌, ◌≤ℤ◌, List, map, set, to_z, of_z, sym, ap, subst, ◌∙◌, arith, get_or-set_same, Some, None}
use Rattle.std.specs.Int.{w128}
use Rattle.std.specs.List.{Contains}
use Rattle.std.proofs.lemmas.Int.{ints}
use Rattle.stn_model.specs.declared.ids.Constraint.{Constraint}
use Rattle.stn_model.specs.Schedules.{KeepsArcs, time_at}
use Rattle.private_elim.specs.Locals.{arcs_in}
use Rattle.dispatcher.specs.Falling.{IsSafe, Falls}
use Rattle.dispatcher.specs.Choices.{LiesWithin}
use Rattle.dispatcher.specs.Standing.{exchanged}
use Rattle.dispatcher.proofs.Standings.{late_safe}
use Rattle.dispatcher.proofs.Choosing.{early_safe}
use Rattle.dispatcher.proofs.Stands.{chosen_stands}
use Rattle.dispatcher.proofs.Fillings.{between}
use Rattle.dispatcher.proofs.plan.Plan.keep.Goals as goal

pub settle_at-requires-clause-within : goal.settle_at-requires-clause-within
settle_at-requires-clause-within c =
    let there : Contains c.self.inside.local.points c.args.p.0 = (rw (← c.self.view_is) at c.requires.point) in
    c.self.invariant.standing.known c.args.p.0 there

pub settle_at-requires-clause-safe : goal.settle_at-requires-clause-safe
settle_at-requires-clause-safe c =
    let d = c.self.inside in
    let p = c.args.p.0 in
    let arcs = arcs_in d.local in
    let there : Contains d.local.points p = (rw (← c.self.view_is) at c.requires.point) in
    let within : LiesWithin arcs d.choices.items p c.args.t = (rw (← c.self.view_is) at c.requires.within) in
    let s = c.self.invariant.standing in
    let b = between arcs d.local.points d.choices.items d.latest.items d.early.items s p there c.args.t within in
    let above = b.0 in
    let below = b.1 in
    let low = s.early_low p there in
    let high = s.late_high p there in
    subst (λ (xs : List Constraint). IsSafe xs (set d.latest.items p (to_z w128 (of_z w128 c.args.t)))) (sym (c.as_slice.ensures.value ∙ c.self.invariant.arcs))
    (late_safe arcs d.local.points d.choices.items d.latest.items d.early.items s p (to_z w128 (of_z w128 c.args.t)) there (omega (arith, ints)) (omega (arith, ints)))

pub overflow_sub-t : goal.overflow_sub-t
overflow_sub-t c =
    let d = c.self.inside in
    let p = c.args.p.0 in
    let arcs = arcs_in d.local in
    let there : Contains d.local.points p = (rw (← c.self.view_is) at c.requires.point) in
    let within : LiesWithin arcs d.choices.items p c.args.t = (rw (← c.self.view_is) at c.requires.within) in
    let s = c.self.invariant.standing in
    let b = between arcs d.local.points d.choices.items d.latest.items d.early.items s p there c.args.t within in
    let above = b.0 in
    let below = b.1 in
    let low = s.early_low p there in
    let high = s.late_high p there in
    omega (arith, ints)

pub settle_at-requires-2-clause-within : goal.settle_at-requires-2-clause-within
settle_at-requires-2-clause-within c =
    let there : Contains c.self.inside.local.points c.args.p.0 = (rw (← c.self.view_is) at c.requires.point) in
    let s = c.self.invariant.standing in
    omega (arith, s.known c.args.p.0 there, s.early_each)

pub settle_at-requires-2-clause-safe : goal.settle_at-requires-2-clause-safe
settle_at-requires-2-clause-safe c =
    let d = c.self.inside in
    let p = c.args.p.0 in
    let arcs = arcs_in d.local in
    let there : Contains d.local.points p = (rw (← c.self.view_is) at c.requires.point) in
    let within : LiesWithin arcs d.choices.items p c.args.t = (rw (← c.self.view_is) at c.requires.within) in
    let s = c.self.invariant.standing in
    let b = between arcs d.local.points d.choices.items d.latest.items d.early.items s p there c.args.t within in
    let above = b.0 in
    let below = b.1 in
    let low = s.early_low p there in
    let high = s.late_high p there in
    let u : ℤ = to_z w128 (of_z w128 (pos 0 -ℤ to_z w128 (of_z w128 c.args.t))) in
    let is : neg_ℤ c.args.t ≡ u = omega (arith, ints) in
    subst (λ (xs : List Constraint). IsSafe xs (set d.early.items p u)) (sym (c.as_slice-2.ensures.value ∙ c.self.invariant.turned))
    (subst (λ (x : ℤ). IsSafe (map exchanged arcs) (set d.early.items p x)) is
    (early_safe arcs d.local.points d.choices.items d.latest.items d.early.items s p c.args.t there above below))

pub index_mut-requires : goal.index_mut-requires
index_mut-requires c =
    let there : Contains c.self.inside.local.points c.args.p.0 = (rw (← c.self.view_is) at c.requires.point) in
    let s = c.self.invariant.standing in
    omega (arith, s.known c.args.p.0 there, s.choice_each, c.self.inside.choices.ok.0)

pub invariant_of-self : goal.invariant_of-self
invariant_of-self c =
    let d = c.self.inside in
    let p = c.args.p.0 in
    let arcs = arcs_in d.local in
    let there : Contains d.local.points p = (rw (← c.self.view_is) at c.requires.point) in
    let within : LiesWithin arcs d.choices.items p c.args.t = (rw (← c.self.view_is) at c.requires.within) in
    let s = c.self.invariant.standing in
    let b = between arcs d.local.points d.choices.items d.latest.items d.early.items s p there c.args.t within in
    let above = b.0 in
    let below = b.1 in
    let low = s.early_low p there in
    let high = s.late_high p there in
    let t : ℤ = to_z w128 (of_z w128 c.args.t) in
    let u : ℤ = to_z w128 (of_z w128 (pos 0 -ℤ to_z w128 (of_z w128 c.args.t))) in
    let is : u ≡ neg_ℤ t = omega (arith, ints) in
    let own = c.as_slice.ensures.value ∙ c.self.invariant.arcs in
    let round = c.as_slice-2.ensures.value ∙ c.self.invariant.turned in
    let late = c.settle_at.new.labels.items in
    let soon = c.settle_at-2.new.labels.items in
    record {
      arcs = c.self.invariant.arcs;
      turned = c.self.invariant.turned;
      standing = chosen_stands arcs d.local.points d.choices.items d.latest.items d.early.items s p t there (omega (arith, ints)) (omega (arith, ints)) late soon
          (subst (λ (xs : List Constraint). Falls xs (set d.latest.items p t) late) own c.settle_at.ensures.falls)
          (subst (λ (xs : List Constraint). KeepsArcs xs late) own c.settle_at.ensures.holds)
          (subst (λ (x : ℤ). Falls (map exchanged arcs) (set d.early.items p x) soon) is
          (subst (λ (xs : List Constraint). Falls xs (set d.early.items p u) soon) round c.settle_at-2.ensures.falls))
          (subst (λ (xs : List Constraint). KeepsArcs xs soon) round c.settle_at-2.ensures.holds);
    }

pub returns-clause-chosen : goal.returns-clause-chosen
returns-clause-chosen c =
    let there : Contains c.self.inside.local.points c.args.p.0 = (rw (← c.self.view_is) at c.requires.point) in
    let s = c.self.invariant.standing in
    let range = c.ranges.t.sfits in
    let same : to_z w128 (of_z w128 c.args.t) ≡ c.args.t = omega (arith, ints) in
    get_or-set_same c.self.inside.choices.items c.args.p.0 (Some (to_z w128 (of_z w128 c.args.t))) None (omega (arith, s.known c.args.p.0 there, s.choice_each))
    ∙ ap (λ (x : ℤ). Some x) same
