use Rattle.std.proofs.Common.{◌≡◌, ◌++◌, ap, ◌∙◌, is_some, map, reverse}
use Rattle.stn_model.specs.Walks.{IsNegativeCycle}
use Rattle.elim_step.specs.Eliminated.{point_at}
use Rattle.private_elim.specs.Locals.{arcs_in}
use Rattle.private_elim.specs.Numbers.{number_in}
use Rattle.private_elim.proofs.walks.Failing.{failing_out, failing_back, closes_below}
use Rattle.private_elim.proofs.walks.FailingCycles.{cycle_points, places_within, is_own_conflict, is_normal}
use Rattle.private_elim.proofs.conflict.own_conflict.Goals as goal

pub unfold-requires-clause-there : goal.unfold-requires-clause-there
unfold-requires-clause-there c =
    let t = c.args.elimination.now in
    let p = point_at t.local.points c.args.place in
    let q = point_at t.local.points c.args.other in
    ap is_some (failing_out t.local (reverse t.order) p q c.size-facts.ensures.facts.none_below c.requires.fails)

pub unfold-requires-2-clause-there : goal.unfold-requires-2-clause-there
unfold-requires-2-clause-there c =
    let t = c.args.elimination.now in
    let p = point_at t.local.points c.args.place in
    let q = point_at t.local.points c.args.other in
    ap is_some (failing_back t.local (reverse t.order) p q c.size-facts.ensures.facts.none_below c.requires.fails)

pub negative_cycle-requires : goal.negative_cycle-requires
negative_cycle-requires c =
    let t = c.args.elimination.now in
    let p = point_at t.local.points c.args.place in
    let q = point_at t.local.points c.args.other in
    let out = c.in_ok-closed.closed.items in
    let back = c.in_ok-back.back.items in
    let both : c.as_slice-2.result.now ≡ out ++ back =
    c.as_slice-2.ensures.value ∙ c.in_ok-extend_from_slice.ensures.items ∙ ap (λ xs. out ++ xs) c.as_slice.ensures.value in
    rw (c.local-local.ensures, both)
    (closes_below t.local (reverse t.order) p q c.size-facts.ensures.facts.none_below c.requires.fails out back
    c.in_ok-closed.ensures.walk c.in_ok-closed.ensures.weight c.in_ok-back.ensures.walk c.in_ok-back.ensures.weight)

pub numbers_of-requires-clause-within : goal.numbers_of-requires-clause-within
numbers_of-requires-clause-within c =
    let v = c.args.elimination.now.local in
    let cycle = c.in_ok-cycle.cycle.items in
    let negative : IsNegativeCycle (arcs_in v) cycle = rw c.local-local.ensures at c.in_ok-cycle.ensures.cycle in
    rw (c.local-local.ensures, c.as_slice-3.ensures.value) (places_within v cycle negative)

pub returns-clause-cycle : goal.returns-clause-cycle
returns-clause-cycle c =
    let t = c.args.elimination.now in
    let v = t.local in
    let p = point_at v.points c.args.place in
    let q = point_at v.points c.args.other in
    let out = c.in_ok-closed.closed.items in
    let back = c.in_ok-back.back.items in
    let cycle = c.in_ok-cycle.cycle.items in
    let both : c.as_slice-2.result.now ≡ out ++ back =
    c.as_slice-2.ensures.value ∙ c.in_ok-extend_from_slice.ensures.items ∙ ap (λ xs. out ++ xs) c.as_slice.ensures.value in
    let negative : IsNegativeCycle (arcs_in v) cycle = rw c.local-local.ensures at c.in_ok-cycle.ensures.cycle in
    let points = cycle_points v t.order p q c.size-facts.ensures.facts.private c.requires.private out back c.as_slice-2.result.now cycle both
    c.in_ok-closed.ensures.through c.in_ok-back.ensures.through c.in_ok-cycle.ensures.part in
    let numbers : c.new.result ≡ map (number_in v) cycle =
    c.new.ensures ∙ c.in_ok-numbers.ensures ∙ ap (λ w. map (number_in w) c.as_slice-3.result.now) c.local-local.ensures
    ∙ ap (map (number_in v)) c.as_slice-3.ensures.value in
    rw numbers (is_own_conflict v cycle negative q points)

pub returns-clause-normal : goal.returns-clause-normal
returns-clause-normal c =
    let v = c.args.elimination.now.local in
    let cycle = c.in_ok-cycle.cycle.items in
    let facts = c.size-facts.ensures.facts in
    let negative : IsNegativeCycle (arcs_in v) cycle = rw c.local-local.ensures at c.in_ok-cycle.ensures.cycle in
    let numbers : c.new.result ≡ map (number_in v) cycle =
    c.new.ensures ∙ c.in_ok-numbers.ensures ∙ ap (λ w. map (number_in w) c.as_slice-3.result.now) c.local-local.ensures
    ∙ ap (map (number_in v)) c.as_slice-3.ensures.value in
    rw numbers (is_normal v cycle negative facts.known facts.numbered c.in_ok-cycle.ensures.normal)
