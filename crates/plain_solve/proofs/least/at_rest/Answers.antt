use Rattle.std.proofs.Common.{◌≡◌, ◌<◌, ℕ, ℤ, List, pos, neg_ℤ, length, slice_index, ◌∙◌, sym, ap, subst, arith}
use Rattle.std.proofs.lemmas.List.{length-map}
use Rattle.std.proofs.Math.ListN.{get_or-map}
use Rattle.stn_model.specs.Net.{point_count}
use Rattle.stn_model.specs.Schedules.{time_at}
use Rattle.plain_solve.specs.LeastWalks.{ListsOthersOnce, IsBefore, point_at}
use Rattle.plain_solve.specs.OrderFacts.{parent}
use Rattle.plain_solve.proofs.LeastLemmas.{starts_at, least, last_ends, last_tight}
use Rattle.plain_solve.proofs.least.at_rest.Goals as goal

pub returns-clause-sizes : goal.returns-clause-sizes
returns-clause-sizes c =
    let h = c.requires.forced in
    let points = c.requires.turned.points in
    record {
      last_arcs = h.last_each ∙ points;
      distances = ap (λ (xs : List ℤ). length xs) c.in_ok-distances.ensures ∙ length-map c.args.labels.times.items neg_ℤ ∙ h.one_each ∙ points;
    }

pub returns-clause-order : goal.returns-clause-order
returns-clause-order c =
    let order = c.in_ok-order.order.items in
    subst (λ (n : ℕ). ListsOthersOnce n c.args.source.0 order) c.requires.turned.points
    (subst (λ (r : ℕ). ListsOthersOnce c.args.graph.now.points r order) c.requires.turned.root c.in_ok-order.ensures.others)

pub returns-clause-ends : goal.returns-clause-ends
returns-clause-ends c =
    let s = c.args.labels in
    last_ends c.args.net.now c.args.source.0 c.args.graph.now c.requires.graph c.requires.turned s.times.items s.last_arcs.items s.raises c.requires.forced c.requires.rest

pub returns-clause-starts : goal.returns-clause-starts
returns-clause-starts c =
    let g = c.args.graph.now in
    let source = c.args.source.0 in
    let last = c.args.labels.last_arcs.items in
    let order = c.in_ok-order.order.items in
    λ k lt.
    subst (λ (x : ℕ). IsBefore source order k x) (sym (starts_at c.args.net.now source g c.requires.graph c.requires.turned (slice_index last (point_at order k))))
    (subst (λ (r : ℕ). IsBefore r order k (parent g last (point_at order k))) c.requires.turned.root (c.in_ok-order.ensures.after k lt))

pub returns-clause-tight : goal.returns-clause-tight
returns-clause-tight c =
    let s = c.args.labels in
    last_tight c.args.net.now c.args.source.0 c.args.graph.now c.requires.graph c.requires.turned s.times.items s.last_arcs.items s.raises c.requires.forced c.requires.rest
    c.in_ok-distances.distances.items c.in_ok-distances.ensures

pub returns-clause-least : goal.returns-clause-least
returns-clause-least c =
    let s = c.args.labels in
    let points = c.requires.turned.points in
    λ p within.
    least c.args.net.now c.args.source.0 c.args.graph.now c.requires.graph c.requires.turned s.times.items s.last_arcs.items s.raises c.requires.forced c.requires.rest
    p (omega arith) (time_at c.in_ok-distances.distances.items p)
    (ap (λ (xs : List ℤ). time_at xs p) c.in_ok-distances.ensures ∙ get_or-map neg_ℤ s.times.items p (pos 0))

pub invariant_of-result : goal.invariant_of-result
invariant_of-result c =
    let h = c.requires.forced in
    h.last_each ∙ sym (ap (λ (xs : List ℤ). length xs) c.in_ok-distances.ensures ∙ length-map c.args.labels.times.items neg_ℤ ∙ h.one_each)
