use Rattle.std.proofs.Common.{◌&&◌, ap, sym, ◌∙◌, map, false, arith}
use Rattle.std.proofs.lemmas.List.{get_or_default}
use Rattle.std.specs.Prelude.{reverse, not}
use Rattle.stn_walk.specs.Eliminations.{is_in}
use Rattle.elim_step.specs.Eliminated.{point_at}
use Rattle.private_elim.proofs.elimination.Elimination.is_left.Goals as goal

pub returns-then-is_private : goal.returns-then-is_private
returns-then-is_private g c =
    let h = c.self.invariant in
    let v = c.self.inside.local in
    let k = c.args.place in
    let within = (rw (← c.self.view_is) at c.requires) in
    let len = h.taken.cells.len in
    rw (← c.self.view_is) (c.index.ensures ∙ get_or_default c.self.inside.remain.items k c.index.result.now false (omega arith)
    ∙ h.taken.cells.remaining k within
    ∙ ap (λ b. b && not (is_in (reverse (map (λ p. p.0) c.self.inside.order.items)) (point_at v.points k)))
    (sym (sym c.is_private.ensures ∙ c.if-is_private.true)))

pub returns-else-is_private : goal.returns-else-is_private
returns-else-is_private g c =
    let v = c.self.inside.local in
    rw (← c.self.view_is) (c.if-is_private.false
    ∙ ap (λ b. b && not (is_in (reverse (map (λ p. p.0) c.self.inside.order.items)) (point_at v.points c.args.place)))
    (sym (sym c.is_private.ensures ∙ c.if-is_private.false)))
