use Rattle.std.proofs.Common.{◌≡◌, ◌∙◌, sym, ap, subst, ℕ, List, ◌∷◌, ◌*◌, ◌-◌}
use Rattle.plain_solve.specs.TrailFacts.{AnswersTrail}
use Rattle.plain_solve.proofs.Refutes.{read_arc, refuted_root, refuted_top}
use Rattle.plain_solve.proofs.solve.refute.Goals as goal

pub returns-then-arc-eq0 : goal.returns-then-arc-eq0
returns-then-arc-eq0 c =
    let s = c.args.labels.now in
    let g = c.args.graph.now in
    let a = c.arc-arc.result in
    let r = read_arc g c.requires.graph c.args.n a c.requires.over.within c.arc-arc.ensures.arc in
    let t = subst (AnswersTrail g s a.to.0) c.in-Reaches.is c.in_ok-walk.ensures in
    refuted_root c.args.net.now g c.requires.onward s c.args.n a r c.requires.over c.in-Reaches.walk.items c.in_ok-longer-in-Reaches.longer.items t.0 t.1 c.if-arc-eq0.true
    (rw c.as_slice.ensures.value at c.in_ok-longer-in-Reaches.ensures)

pub returns-in_ok-closed-in-Reaches : goal.returns-in_ok-closed-in-Reaches
returns-in_ok-closed-in-Reaches c =
    let s = c.args.labels.now in
    let g = c.args.graph.now in
    let n = c.args.n in
    let a = c.arc-arc.result in
    let r = read_arc g c.requires.graph n a c.requires.over.within c.arc-arc.ensures.arc in
    let t = subst (AnswersTrail g s a.to.0) c.in-Reaches.is c.in_ok-walk.ensures in
    let longer = rw c.as_slice.ensures.value at c.in_ok-longer-in-Reaches.ensures in
    let closed = rw c.as_slice-in-Reaches.ensures.value at c.in_ok-closed-in-Reaches.ensures in
    refuted_top c.args.net.now g c.requires.onward s n a r c.requires.over c.in-Reaches.walk.items c.in_ok-closed-in-Reaches.closed.items t.0 t.1 c.if-arc-eq0.false
    (closed ∙ ap (λ (ns : List ℕ). (2 * a.from.0 - 2) ∷ ns) longer)
