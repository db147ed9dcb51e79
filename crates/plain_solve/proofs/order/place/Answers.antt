use Rattle.std.proofs.Common.{◌≡◌, ◌≢◌, ◌<◌, ℕ, length, get_or, inl, inr, sym, ap, subst, ◌∙◌, ⊎_elim, ◌⊎◌, arith}
use Rattle.std.proofs.lemmas.Bool.{false≢true, cases_eq}
use Rattle.std.proofs.lemmas.List.{get_or_read}
use Rattle.stn_model.specs.Arcs.{to_at}
use Rattle.plain_solve.specs.OrderFacts.{parent}
use Rattle.plain_solve.proofs.Trees.{parent_in}
use Rattle.plain_solve.proofs.OrderLemmas.{unchanged, grown}
use Rattle.plain_solve.proofs.order.place.Goals as goal

pub returns : goal.returns
returns c =
    let g = c.args.graph.now in
    let s = c.args.labels.now in
    let a = c.args.arranged.now in
    let p = c.args.point in
    let lt = c.if-point-graph.false in
    let long : p < length s.last_arcs.items = omega (arith, c.requires.forced.last_each) in
    let is : c.index-n.result.now ≡ get_or s.last_arcs.items p 0 = get_or_read s.last_arcs.items p c.index-n.result.now long c.index-n.ensures 0 in
    let above : c.arc-arc.result.to.0 ≡ parent g s.last_arcs.items p = ap (λ e. e.to.0) c.arc-arc.ensures.arc ∙ ap (to_at g.arcs.items) is in
    let off = c.if-is_next.false in
    unchanged g s.last_arcs.items a p c.requires.order (λ within away fresh. (
      λ root. false≢true (sym off ∙ c.is_placed-is_next.ensures.1 (inl (above ∙ root))),
      ⊎_elim
          (λ (none : get_or a.places.items (parent g s.last_arcs.items p) 0 ≡ 0). none)
          (λ (some : get_or a.places.items (parent g s.last_arcs.items p) 0 ≢ 0).
          let more : 0 < get_or a.places.items c.arc-arc.result.to.0 0 = (let same = ap (λ (x : ℕ). get_or a.places.items x 0) above in omega arith) in
          absurd (false≢true (sym off ∙ c.is_placed-is_next.ensures.1 (inr more))))
          (cases_eq (get_or a.places.items (parent g s.last_arcs.items p) 0) 0),
    ))

pub returns-then-is_next : goal.returns-then-is_next
returns-then-is_next c =
    let g = c.args.graph.now in
    let s = c.args.labels.now in
    let a = c.args.arranged.now in
    let p = c.args.point in
    let lt = c.if-point-graph.false in
    let within : p < g.points = omega arith in
    let long : p < length s.last_arcs.items = omega (arith, c.requires.forced.last_each) in
    let is : c.index-n.result.now ≡ get_or s.last_arcs.items p 0 = get_or_read s.last_arcs.items p c.index-n.result.now long c.index-n.ensures 0 in
    let above : c.arc-arc.result.to.0 ≡ parent g s.last_arcs.items p = ap (λ e. e.to.0) c.arc-arc.ensures.arc ∙ ap (to_at g.arcs.items) is in
    let off = c.if-has_place.false in
    let away : p ≢ g.root = λ root. false≢true (sym off ∙ c.is_placed-has_place.ensures.1 (inl root)) in
    let fresh : get_or a.places.items p 0 ≡ 0 = ⊎_elim
    (λ (none : get_or a.places.items p 0 ≡ 0). none)
    (λ (some : get_or a.places.items p 0 ≢ 0). let more : 0 < get_or a.places.items p 0 = omega arith in absurd (false≢true (sym off ∙ c.is_placed-has_place.ensures.1 (inr more))))
    (cases_eq (get_or a.places.items p 0) 0) in
    grown g s.last_arcs.items a c.put.new.arranged c.requires.order p within away fresh
    (parent_in g s.times.items s.last_arcs.items s.raises c.requires.forced c.requires.graph p away within)
    (subst (λ (x : ℕ). (x ≡ g.root) ⊎ (0 < get_or a.places.items x 0)) above (c.is_placed-is_next.ensures.0 c.if-is_next.true))
    c.in_ok-put.ensures.order c.in_ok-put.ensures.places
