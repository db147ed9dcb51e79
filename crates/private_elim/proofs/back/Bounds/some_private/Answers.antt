use Rattle.std.proofs.Common.{◌≡◌, sym, subst, ◌∙◌, Bool, List, false, length, ◌<◌, arith}
use Rattle.std.specs.Prelude.{slice_index_or}
use Rattle.std.proofs.lemmas.List.{get_or_read}
use Rattle.private_elim.proofs.sweep.NextBounds.{shared_none}
use Rattle.private_elim.proofs.back.Bounds.some_private.Goals as goal

pub returns-else-index : goal.returns-else-index
returns-else-index g c = λ none m above.
    let b = c.self.inside in
    let within = (rw (← c.self.view_is) at c.requires) in
    let same = c.self.invariant.1 in
    let there : c.args.row < length b.private.items = omega (arith, same, within) in
    let first = sym (get_or_read b.private.items c.args.row c.index.result.now there c.index.ensures false) ∙ c.if-index.false in
    let second = subst (λ (flags : List Bool). slice_index_or flags m false ≡ false) c.as_slice.ensures.value (c.any_from.ensures none m above) in
    rw (← c.self.view_is) (shared_none b.points.items b.private.items (g.R.Rows.at b.finals) c.args.row m within first second)
