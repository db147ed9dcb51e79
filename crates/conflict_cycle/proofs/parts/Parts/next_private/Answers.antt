use Rattle.std.proofs.Common.{◌≡◌, ◌∙◌, ◌+◌, List, length, get_or, ap, arith, subst, sym}
use Rattle.std.specs.Option.{option_map}
use Rattle.private_elim.specs.Backs.{BoundsView, bound_between}
use Rattle.conflict_cycle.specs.Nexts.{IsNext}
use Rattle.conflict_cycle.specs.Parts.{PartsView}
use Rattle.conflict_cycle.proofs.Nexts.{HasPrivateBelow, next_all, next_bound, next_more}
use Rattle.conflict_cycle.proofs.parts.Parts.next_private.Goals as goal

pub loop-bounds-preserved : goal.loop-bounds-preserved
loop-bounds-preserved c =
    let bounds = c.args.self.now.bounds in
    let n = c.loop-bounds.bounds-index in
    let v = c.bounds-item.result in
    let after = option_map (λ p. p.0) c.args.after in
    let is = c.as_slice-bounds-items.ensures.value ∙ ap (λ (p : PartsView). p.bounds) c.self.view_is in
    let many = ap (λ (bs : List BoundsView). length bs) is in
    subst (IsNext (HasPrivateBelow bounds (n + 1) c.args.i.0) after) (sym c.lesser-least.ensures)
    (next_more bounds c.args.i.0 after n v (option_map (λ p. p.0) c.loop-bounds.least) (option_map (λ p. p.0) c.next.result)
    (omega (arith, c.loop-bounds-test.true)) (subst (λ (bs : List BoundsView). v ≡ get_or bs n v) is c.bounds-item.is) c.loop-bounds.invariant
    (next_bound (bound_between v c.args.i.0) c.args.after c.next.result c.next.ensures.some c.next.ensures.least c.next.ensures.none))

pub returns : goal.returns
returns c =
    let is = c.as_slice-bounds-items.ensures.value ∙ ap (λ (p : PartsView). p.bounds) c.self.view_is in
    let many = ap (λ (bs : List BoundsView). length bs) is in
    next_all c.args.self.now.bounds c.args.i.0 (option_map (λ p. p.0) c.args.after) c.loop-bounds.bounds-index
    (option_map (λ p. p.0) c.loop-bounds.least) (omega (arith, c.loop-bounds-test.false)) c.loop-bounds.invariant
