use Rattle.std.proofs.Common.{◌≡◌, ◌<◌, ◌≤◌, ◌-◌, ◌+◌, ◌∙◌, sym, ap, subst, arith, ℕ, List, get_or, set, length, drop, take, pos, ◌-ℤ◌}
use Rattle.std.proofs.lemmas.Int.{ints}
use Rattle.std.proofs.lemmas.List.{get_or_read, take_rest, length-drop}
use Rattle.stn_model.specs.Arcs.{arc_at, to_at}
use Rattle.stn_model.specs.Walks.{IsNegativeClosed}
use Rattle.stn_model.specs.Schedules.{time_at}
use Rattle.plain_solve.specs.TrailFacts.{IsFollowed, IsTrail}
use Rattle.plain_solve.proofs.LastArcs.{trail_walk, trail_light, trail_closes, followed}
use Rattle.plain_solve.proofs.trail.follow.Goals as goal

pub returns-then-at-graph : goal.returns-then-at-graph
returns-then-at-graph c =
    let s = c.args.labels.now in
    let g = c.args.graph.now in
    let f = c.requires.forced in
    let t = subst (λ (x : ℕ). IsTrail g s.last_arcs.items c.args.from x c.follow.walk.items) c.if-at-graph.true c.follow.invariant.whole in
    let l = trail_light g s.times.items s.last_arcs.items s.raises f c.args.from g.root c.follow.walk.items t in
    let z = f.first in
    (trail_walk g s.times.items s.last_arcs.items s.raises f c.args.from g.root c.follow.walk.items t, omega (arith, ints))

pub slice_bounds-from_slice-count : goal.slice_bounds-from_slice-count
slice_bounds-from_slice-count c =
    let at = c.follow.at in
    let within : at < length c.follow.places.items = omega (arith, c.follow.invariant.marks, c.follow.invariant.within) in
    let e = get_or_read c.follow.places.items at c.index-place.result.now within c.index-place.ensures 0 in
    let some : 0 < get_or c.follow.places.items at 0 = omega arith in
    let m = c.follow.invariant.met at c.follow.invariant.within some in
    let high = m.0 in
    let v = ap (λ (xs : List ℕ). length xs) c.deref.ensures.value in
    omega arith

pub returns-then-place-ne0 : goal.returns-then-place-ne0
returns-then-place-ne0 c =
    let s = c.args.labels.now in
    let g = c.args.graph.now in
    let at = c.follow.at in
    let k = c.index-place.result.now in
    let within : at < length c.follow.places.items = omega (arith, c.follow.invariant.marks, c.follow.invariant.within) in
    let e : get_or c.follow.places.items at 0 ≡ k = sym (get_or_read c.follow.places.items at k within c.index-place.ensures 0) in
    let some : 0 < get_or c.follow.places.items at 0 = omega arith in
    let m = c.follow.invariant.met at c.follow.invariant.within some in
    let high = m.0 in
    let t = subst (λ (x : ℕ). IsTrail g s.last_arcs.items at at (drop (x - 1) c.follow.walk.items)) e m.1 in
    let many = length-drop (k - 1) c.follow.walk.items in
    let long : 0 < length (drop (k - 1) c.follow.walk.items) = omega arith in
    subst (IsNegativeClosed g.arcs.items) (sym (rw (take_rest, c.deref.ensures.value) at c.in_ok-closed.ensures.items))
    (trail_closes g s.times.items s.last_arcs.items s.raises c.requires.forced at (drop (k - 1) c.follow.walk.items) t long)

pub follow-preserved : goal.follow-preserved
follow-preserved c =
    let s = c.args.labels.now in
    let g = c.args.graph.now in
    let at = c.follow.at in
    let f = c.follow.invariant in
    let in_places : at < length c.follow.places.items = omega (arith, f.marks, f.within) in
    let in_last : at < length s.last_arcs.items = omega (arith, c.requires.forced.last_each, f.within) in
    let read = get_or_read c.follow.places.items at c.index-place.result.now in_places c.index-place.ensures 0 in
    let fresh : get_or c.follow.places.items at 0 ≡ 0 = omega arith in
    let n = c.index-n.result.now in
    let is : n ≡ get_or s.last_arcs.items at 0 = get_or_read s.last_arcs.items at n in_last c.index-n.ensures 0 in
    let to_is : to_at g.arcs.items n ≡ c.arc-at.result.to.0 = ap (λ a. a.to.0) (sym c.arc-at.ensures.arc) in
    let end_in : to_at g.arcs.items n < g.points = (let w = c.arc-at.ensures.within in let e = w.ends in omega arith) in
    let f2 = followed g s.last_arcs.items c.args.from at n c.follow.places.items c.follow.walk.items f fresh c.if-at-graph.false is end_in in
    let len : c.len.result ≡ length c.follow.walk.items = omega (arith, c.len.ensures, c.follow.walk.ok.0) in
    subst (λ (x : ℕ). IsFollowed g s.last_arcs.items c.args.from x (set c.follow.places.items at (c.len.result + 1)) c.push.new.self.items) to_is
    (subst (λ (k : ℕ). IsFollowed g s.last_arcs.items c.args.from (to_at g.arcs.items n) (set c.follow.places.items at (k + 1)) c.push.new.self.items) (sym len)
    (subst (λ (w : List ℕ). IsFollowed g s.last_arcs.items c.args.from (to_at g.arcs.items n) (set c.follow.places.items at (length c.follow.walk.items + 1)) w)
    (sym c.in_ok-push.ensures.items) f2))
