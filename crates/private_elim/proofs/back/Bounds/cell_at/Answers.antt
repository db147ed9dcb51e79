use Rattle.std.proofs.Common.{Option, None, sym, ap, subst, ◌∙◌, length}
use Rattle.std.specs.Prelude.{IfSome, if◌then◌else◌}
use Rattle.dist_rows.specs.declared.cell.Cell.{Cell}
use Rattle.private_elim.specs.Throughs.{IsThrough}
use Rattle.private_elim.proofs.sweep.Bounds.{cell_is}
use Rattle.private_elim.proofs.back.Bounds.cell_at.Goals as goal

pub returns-then-is_private_pair : goal.returns-then-is_private_pair
returns-then-is_private_pair g c =
    let b = c.self.inside in
    let at = g.R.Rows.at b.finals in
    let within = (rw (← c.self.view_is) at c.requires) in
    let is = cell_is b.points.items b.private.items at c.args.from c.args.to within.0 within.1 in
    let test = (rw c.as_slice.ensures.value at c.is_private_pair.ensures) in
    let private = ap {A = _} {B = Option Cell} (λ t. if t then at c.args.from c.args.to else None) (sym test ∙ c.if-is_private_pair.true) in
    rw (← c.self.view_is) (record {
      value = c.get.ensures ∙ sym (is ∙ private);
      through = subst (λ o. IfSome o (λ c. IsThrough (length b.points.items) c.via)) (private ∙ sym c.get.ensures) (c.self.invariant.4 c.args.from c.args.to);
    })

pub returns : goal.returns
returns g c =
    let b = c.self.inside in
    let at = g.R.Rows.at b.finals in
    let within = (rw (← c.self.view_is) at c.requires) in
    let is = cell_is b.points.items b.private.items at c.args.from c.args.to within.0 within.1 in
    let test = (rw c.as_slice.ensures.value at c.is_private_pair.ensures) in
    rw (← c.self.view_is) (record {
      value = sym (is ∙ ap (λ t. if t then at c.args.from c.args.to else None) (sym test ∙ c.if-is_private_pair.false));
      through = tt;
    })
