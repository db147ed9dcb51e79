use Rattle.std.proofs.Common.{◌≡◌, ℤ, List, map, sym, subst, ◌∙◌, Option}
use Rattle.stn_model.specs.declared.ids.Constraint.{Constraint}
use Rattle.stn_model.specs.Schedules.{KeepsArcs}
use Rattle.private_elim.specs.Locals.{LocalView, arcs_in}
use Rattle.private_elim.proofs.locals.LocalFacts.{z_contained}
use Rattle.dispatcher.specs.Falling.{IsSafe, Falls}
use Rattle.dispatcher.specs.Standing.{exchanged, IsStanding}
use Rattle.dispatcher.specs.Plans.{IsConsistentLocal, late_start, early_start, none_chosen}
use Rattle.dispatcher.proofs.Beginnings.{late_starts, early_starts, stands_first}
use Rattle.dispatcher.proofs.plan.Plan.start.Goals as goal

pub late_start-requires : goal.late_start-requires
late_start-requires c = c.labels_of-labels.ensures.above 0 (z_contained c.in_ok-local.local c.labels_of-labels.ensures.valid)

pub settle-requires : goal.settle-requires
settle-requires c =
    let v = c.in_ok-local.local in
    let r : IsConsistentLocal v = subst IsConsistentLocal (sym c.in_ok-local.ensures) c.requires in
    subst (λ (xs : List Constraint). IsSafe xs c.in_ok-latest.latest.items) (sym (c.as_slice.ensures.value ∙ c.in_ok-arcs.ensures))
    (subst (λ (ls : List ℤ). IsSafe (arcs_in v) ls) (sym c.in_ok-latest.ensures)
    (late_starts v c.labels_of-labels.ensures.valid c.labels_of-labels.result c.labels_of-labels.ensures.above r.0 r.1))

pub settle-requires-2 : goal.settle-requires-2
settle-requires-2 c =
    let v = c.in_ok-local.local in
    let r : IsConsistentLocal v = subst IsConsistentLocal (sym c.in_ok-local.ensures) c.requires in
    subst (λ (xs : List Constraint). IsSafe xs c.in_ok-early.early.items) (sym (c.as_slice-2.ensures.value ∙ c.in_ok-turned.ensures))
    (subst (λ (ls : List ℤ). IsSafe (map exchanged (arcs_in v)) ls) (sym c.in_ok-early.ensures)
    (early_starts v c.labels_of-labels.ensures.valid c.labels_of-labels.result c.labels_of-labels.ensures.above r.0 r.1))

pub invariant_of-result : goal.invariant_of-result
invariant_of-result c =
    let v = c.in_ok-local.local in
    let labels = c.labels_of-labels.result in
    let late = c.settle.new.labels.items in
    let soon = c.settle-2.new.labels.items in
    let r : IsConsistentLocal v = subst IsConsistentLocal (sym c.in_ok-local.ensures) c.requires in
    let own = c.as_slice.ensures.value ∙ c.in_ok-arcs.ensures in
    let round = c.as_slice-2.ensures.value ∙ c.in_ok-turned.ensures in
    record {
      arcs = c.in_ok-arcs.ensures;
      turned = c.in_ok-turned.ensures;
      standing = subst (λ (cs : List (Option ℤ)). IsStanding (arcs_in v) v.points cs late soon) (sym c.in_ok-choices.ensures)
          (stands_first v c.labels_of-labels.ensures.valid labels c.labels_of-labels.ensures.above r.0 r.1 late soon
          (subst (λ (ls : List ℤ). Falls (arcs_in v) ls late) c.in_ok-latest.ensures
          (subst (λ (xs : List Constraint). Falls xs c.in_ok-latest.latest.items late) own c.settle.ensures.falls))
          (subst (λ (xs : List Constraint). KeepsArcs xs late) own c.settle.ensures.holds)
          (subst (λ (ls : List ℤ). Falls (map exchanged (arcs_in v)) ls soon) c.in_ok-early.ensures
          (subst (λ (xs : List Constraint). Falls xs c.in_ok-early.early.items soon) round c.settle-2.ensures.falls))
          (subst (λ (xs : List Constraint). KeepsArcs xs soon) round c.settle-2.ensures.holds));
    }
