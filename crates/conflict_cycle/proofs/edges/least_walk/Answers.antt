use Rattle.std.proofs.Common.{◌∙◌, ◌+◌, ◌-◌, ◌++◌, ◌<◌, ℕ, List, [], ap, arith, length, refl, subst, sym}
use Rattle.stn_model.specs.Net.{arcs_of, point_count}
use Rattle.stn_model.specs.Schedules.{IsLeastBound}
use Rattle.stn_model.specs.Walks.{IsWalk, weight}
use Rattle.stn_walk.proofs.Distances.{network_bound_there}
use Rattle.conflict_cycle.specs.Belongs.{AreExternalNumbers}
use Rattle.conflict_cycle.specs.Edges.{ArePlaces, IsGap, place_of, whole_order}
use Rattle.conflict_cycle.proofs.Gaps.{gap_start, gap_joined, gap_closed}
use Rattle.conflict_cycle.proofs.LaidParts.{place_at_most}
use Rattle.conflict_cycle.proofs.PartBounds.{held_by, joined_ends, net_consistent}
use Rattle.conflict_cycle.proofs.edges.least_walk.Goals as goal

pub unfolding-init : goal.unfolding-init
unfolding-init c =
    let net = c.args.net.now in
    let parts = c.args.parts.now in
    let i = c.args.i.0 in
    let j = c.args.j.0 in
    let order = whole_order parts in
    let valid = c.requires.belongs.stands.network in
    let held = held_by parts c.shared.result.now c.shared.ensures.shared c.interface-face.ensures.together in
    let ends = joined_ends net valid order i j c.requires.joined in
    let bound = network_bound_there net valid (net_consistent parts c.reduced-reduced.ensures.known held net c.requires.belongs) i j ends.0 ends.1 in
    let gap = gap_start net order i j bound.0 c.requires.joined bound.1 in
    subst (λ (after : List ℕ). IsGap net order i j i j c.new.result.items after) (sym c.new-2.ensures.items)
    (subst (λ (before : List ℕ). IsGap net order i j i j before []) (sym c.new.ensures.items) gap)

pub narrow-requires : goal.narrow-requires
narrow-requires c =
    let net = c.args.net.now in
    let parts = c.args.parts.now in (
      refl,
      (
        c.requires.belongs,
        (
          subst (AreExternalNumbers net) (sym c.as_slice.ensures.value) c.in_ok-externals.ensures.numbers,
          (
            subst (ArePlaces (point_count net) (whole_order parts)) (sym c.as_slice-in-unfolding.ensures.value) c.in_ok-places.ensures,
            gap_joined net (whole_order parts) c.args.i.0 c.args.j.0 c.unfolding.gap.from.0 c.unfolding.gap.to.0 c.unfolding.gap.before.items
                c.unfolding.gap.after.items c.unfolding-test.true c.unfolding.invariant,
          ),
        ),
      ),
    )

pub unfolding-smaller : goal.unfolding-smaller
unfolding-smaller c =
    let order = whole_order c.args.parts.now in
    let new = c.narrow.new.gap in
    let old = c.unfolding.gap in
    let more = c.in_ok-narrow.ensures.later in
    let one = place_at_most order new.from.0 in
    let two = place_at_most order new.to.0 in
    let less : (length order + length order) - (place_of order new.from.0 + place_of order new.to.0)
    < (length order + length order) - (place_of order old.from.0 + place_of order old.to.0) = omega arith in
    less

pub returns-clause-walk : goal.returns-clause-walk
returns-clause-walk c =
    let net = c.args.net.now in
    let gap = c.unfolding.gap in
    let is = c.new-3.ensures ∙ c.in_ok-extend_from_slice.ensures.items
    ∙ ap (λ (xs : List ℕ). gap.before.items ++ xs) (c.as_slice-2.ensures.value ∙ c.reverse.ensures.items) in
    subst (IsWalk (arcs_of net) c.args.i.0 c.args.j.0) (sym is)
    (gap_closed net (whole_order c.args.parts.now) c.args.i.0 c.args.j.0 gap.from.0 gap.to.0 gap.before.items gap.after.items
    (omega (arith, c.unfolding-test.false)) c.unfolding.invariant).0

pub returns-clause-least : goal.returns-clause-least
returns-clause-least c =
    let net = c.args.net.now in
    let gap = c.unfolding.gap in
    let is = c.new-3.ensures ∙ c.in_ok-extend_from_slice.ensures.items
    ∙ ap (λ (xs : List ℕ). gap.before.items ++ xs) (c.as_slice-2.ensures.value ∙ c.reverse.ensures.items) in
    subst (λ (w : List ℕ). IsLeastBound (point_count net) (arcs_of net) c.args.i.0 c.args.j.0 (weight (arcs_of net) w)) (sym is)
    (gap_closed net (whole_order c.args.parts.now) c.args.i.0 c.args.j.0 gap.from.0 gap.to.0 gap.before.items gap.after.items
    (omega (arith, c.unfolding-test.false)) c.unfolding.invariant).1
