use Rattle.std.proofs.Common.{sym, ap, ◌∙◌, map, subst}
use Rattle.elim_step.specs.Eliminated.{point_at}
use Rattle.private_elim.specs.Numbers.{number_in}
use Rattle.private_elim.proofs.walks.ReducedWalks.{IsWalkOf, places_within, starts_somewhere, ends_somewhere, both_within, both_apart, start_range}
use Rattle.private_elim.proofs.walks.ReducedWalks.{end_range, by_detour, weight_there, by_cell}
use Rattle.private_elim.proofs.reduced.Reduced.walk_between.Goals as goal

-- both points are of the local problem
pub unreachable-requires : goal.unreachable-requires
unreachable-requires c =
    starts_somewhere c.self.inside.elimination c.size-size.ensures.facts c.self.inside.summary c.self.invariant c.local-local.result.now
    c.local-local.ensures c.args.i.0 c.args.j.0 (rw (← c.self.view_is) at c.requires) (sym c.in_default.ensures)

pub unreachable-requires-in_default-place_of : goal.unreachable-requires-in_default-place_of
unreachable-requires-in_default-place_of c =
    ends_somewhere c.self.inside.elimination c.size-size.ensures.facts c.self.inside.summary c.self.invariant c.local-local.result.now c.local-local.ensures
    c.args.i.0 c.args.j.0 (rw (← c.self.view_is) at c.requires) (sym c.in_default-place_of.ensures)

-- at different places
pub is_detour-requires-clause-within : goal.is_detour-requires-clause-within
is_detour-requires-clause-within c =
    both_within c.self.inside.elimination c.size-size.ensures.facts c.self.inside.summary c.self.invariant c.local-local.result.now c.local-local.ensures
    c.args.i.0 c.args.j.0 (rw (← c.self.view_is) at c.requires) c.in-Some.from c.in-Some-place_of.to (sym c.in-Some.ensures)
    (sym c.in-Some-place_of.ensures)

pub is_detour-requires-clause-apart : goal.is_detour-requires-clause-apart
is_detour-requires-clause-apart c =
    both_apart c.self.inside.elimination c.size-size.ensures.facts c.self.inside.summary c.self.invariant c.local-local.result.now c.local-local.ensures
    c.args.i.0 c.args.j.0 (rw (← c.self.view_is) at c.requires) c.in-Some.from c.in-Some-place_of.to (sym c.in-Some.ensures)
    (sym c.in-Some-place_of.ensures)

-- the detour is between points other than z
pub detour-requires-clause-from : goal.detour-requires-clause-from
detour-requires-clause-from c =
    start_range c.self.inside.elimination c.size-size.ensures.facts c.self.inside.summary c.self.invariant c.local-local.result.now c.local-local.ensures
    c.args.i.0 c.args.j.0 (rw (← c.self.view_is) at c.requires) c.in-Some.from c.in-Some-place_of.to (sym c.in-Some.ensures)
    (sym c.in-Some-place_of.ensures) (sym c.is_detour.ensures ∙ c.if-is_detour.true)

pub detour-requires-clause-to : goal.detour-requires-clause-to
detour-requires-clause-to c =
    end_range c.self.inside.elimination c.size-size.ensures.facts c.self.inside.summary c.self.invariant c.local-local.result.now c.local-local.ensures
    c.args.i.0 c.args.j.0 (rw (← c.self.view_is) at c.requires) c.in-Some.from c.in-Some-place_of.to (sym c.in-Some.ensures)
    (sym c.in-Some-place_of.ensures) (sym c.is_detour.ensures ∙ c.if-is_detour.true)

-- and is a walk of the entry's weight
pub returns-then-is_detour-clause-walk : goal.returns-then-is_detour-clause-walk
returns-then-is_detour-clause-walk c =
    (subst (λ x. IsWalkOf x c.args.i.0 c.args.j.0 c.new.result) c.self.view_is
    (by_detour c.self.inside.elimination c.size-size.ensures.facts c.self.inside.summary c.self.invariant c.local-local.result.now c.local-local.ensures
    c.args.i.0 c.args.j.0 (rw (← c.self.view_is) at c.requires) c.in-Some.from c.in-Some-place_of.to (sym c.in-Some.ensures)
    (sym c.in-Some-place_of.ensures)
    (sym c.is_detour.ensures ∙ c.if-is_detour.true) c.new.result (c.new.ensures ∙ c.in_ok-numbers.ensures))).walk

pub returns-then-is_detour-clause-own : goal.returns-then-is_detour-clause-own
returns-then-is_detour-clause-own c =
    (subst (λ x. IsWalkOf x c.args.i.0 c.args.j.0 c.new.result) c.self.view_is
    (by_detour c.self.inside.elimination c.size-size.ensures.facts c.self.inside.summary c.self.invariant c.local-local.result.now c.local-local.ensures
    c.args.i.0 c.args.j.0 (rw (← c.self.view_is) at c.requires) c.in-Some.from c.in-Some-place_of.to (sym c.in-Some.ensures)
    (sym c.in-Some-place_of.ensures)
    (sym c.is_detour.ensures ∙ c.if-is_detour.true) c.new.result (c.new.ensures ∙ c.in_ok-numbers.ensures))).own

pub returns-then-is_detour-clause-weight : goal.returns-then-is_detour-clause-weight
returns-then-is_detour-clause-weight c =
    (subst (λ x. IsWalkOf x c.args.i.0 c.args.j.0 c.new.result) c.self.view_is
    (by_detour c.self.inside.elimination c.size-size.ensures.facts c.self.inside.summary c.self.invariant c.local-local.result.now c.local-local.ensures
    c.args.i.0 c.args.j.0 (rw (← c.self.view_is) at c.requires) c.in-Some.from c.in-Some-place_of.to (sym c.in-Some.ensures)
    (sym c.in-Some-place_of.ensures)
    (sym c.is_detour.ensures ∙ c.if-is_detour.true) c.new.result (c.new.ensures ∙ c.in_ok-numbers.ensures))).weighs

-- else there is a cell
pub unfold-requires-clause-within : goal.unfold-requires-clause-within
unfold-requires-clause-within c =
    both_within c.self.inside.elimination c.size-size.ensures.facts c.self.inside.summary c.self.invariant c.local-local.result.now c.local-local.ensures
    c.args.i.0 c.args.j.0 (rw (← c.self.view_is) at c.requires) c.in-Some.from c.in-Some-place_of.to (sym c.in-Some.ensures)
    (sym c.in-Some-place_of.ensures)

pub unfold-requires-clause-apart : goal.unfold-requires-clause-apart
unfold-requires-clause-apart c =
    both_apart c.self.inside.elimination c.size-size.ensures.facts c.self.inside.summary c.self.invariant c.local-local.result.now c.local-local.ensures
    c.args.i.0 c.args.j.0 (rw (← c.self.view_is) at c.requires) c.in-Some.from c.in-Some-place_of.to (sym c.in-Some.ensures)
    (sym c.in-Some-place_of.ensures)

pub unfold-requires-clause-there : goal.unfold-requires-clause-there
unfold-requires-clause-there c =
    weight_there c.self.inside.elimination c.size-size.ensures.facts c.self.inside.summary c.self.invariant c.local-local.result.now c.local-local.ensures
    c.args.i.0 c.args.j.0 (rw (← c.self.view_is) at c.requires) c.in-Some.from c.in-Some-place_of.to (sym c.in-Some.ensures)
    (sym c.in-Some-place_of.ensures) (sym c.is_detour.ensures ∙ c.if-is_detour.false)

-- whose arcs are of the local problem
pub numbers_of-requires-clause-within : goal.numbers_of-requires-clause-within
numbers_of-requires-clause-within c =
    let points = c.self.inside.elimination.local.points in
    places_within c.self.inside.elimination.local c.local-local.result.now (point_at points c.in-Some.from)
    (point_at points c.in-Some-place_of.to) c.in_ok-places.places.items c.as_slice.result.now
    c.local-local.ensures c.as_slice.ensures.value c.in_ok-places.ensures.walk

-- and are a walk of its weight
pub returns-clause-walk : goal.returns-clause-walk
returns-clause-walk c =
    (subst (λ x. IsWalkOf x c.args.i.0 c.args.j.0 c.new-2.result) c.self.view_is
    (by_cell c.self.inside.elimination c.size-size.ensures.facts c.self.inside.summary c.self.invariant c.local-local.result.now c.local-local.ensures
    c.args.i.0 c.args.j.0 (rw (← c.self.view_is) at c.requires) c.in-Some.from c.in-Some-place_of.to (sym c.in-Some.ensures)
    (sym c.in-Some-place_of.ensures)
    (sym c.is_detour.ensures ∙ c.if-is_detour.false) c.in_ok-places.places.items c.new-2.result
    (c.new-2.ensures ∙ c.in_ok-numbers-2.ensures ∙ ap (map (number_in c.local-local.result.now)) c.as_slice.ensures.value)
    c.in_ok-places.ensures.walk c.in_ok-places.ensures.weight)).walk

pub returns-clause-own : goal.returns-clause-own
returns-clause-own c =
    (subst (λ x. IsWalkOf x c.args.i.0 c.args.j.0 c.new-2.result) c.self.view_is
    (by_cell c.self.inside.elimination c.size-size.ensures.facts c.self.inside.summary c.self.invariant c.local-local.result.now c.local-local.ensures
    c.args.i.0 c.args.j.0 (rw (← c.self.view_is) at c.requires) c.in-Some.from c.in-Some-place_of.to (sym c.in-Some.ensures)
    (sym c.in-Some-place_of.ensures)
    (sym c.is_detour.ensures ∙ c.if-is_detour.false) c.in_ok-places.places.items c.new-2.result
    (c.new-2.ensures ∙ c.in_ok-numbers-2.ensures ∙ ap (map (number_in c.local-local.result.now)) c.as_slice.ensures.value)
    c.in_ok-places.ensures.walk c.in_ok-places.ensures.weight)).own

pub returns-clause-weight : goal.returns-clause-weight
returns-clause-weight c =
    (subst (λ x. IsWalkOf x c.args.i.0 c.args.j.0 c.new-2.result) c.self.view_is
    (by_cell c.self.inside.elimination c.size-size.ensures.facts c.self.inside.summary c.self.invariant c.local-local.result.now c.local-local.ensures
    c.args.i.0 c.args.j.0 (rw (← c.self.view_is) at c.requires) c.in-Some.from c.in-Some-place_of.to (sym c.in-Some.ensures)
    (sym c.in-Some-place_of.ensures)
    (sym c.is_detour.ensures ∙ c.if-is_detour.false) c.in_ok-places.places.items c.new-2.result
    (c.new-2.ensures ∙ c.in_ok-numbers-2.ensures ∙ ap (map (number_in c.local-local.result.now)) c.as_slice.ensures.value)
    c.in_ok-places.ensures.walk c.in_ok-places.ensures.weight)).weighs
