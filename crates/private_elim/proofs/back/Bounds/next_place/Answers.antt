use Rattle.std.proofs.Common.{◌≡◌, ℕ, ◌<◌, None, Some, sym, ◌∙◌, arith}
use Rattle.private_elim.specs.Backs.{bounds_view, cell_in}
use Rattle.private_elim.proofs.sweep.NextBounds.{passed, from_above, row_none, no_cell, one_more}
use Rattle.private_elim.proofs.back.Bounds.next_place.Goals as goal

pub returns-then-is_some-clause-least : goal.returns-then-is_some-clause-least
returns-then-is_some-clause-least g c =
    let b = c.self.inside in
    let at = g.R.Rows.at b.finals in
    let within = (rw (← c.self.view_is) at c.requires) in
    rw (← c.self.view_is)
    (λ m low less.
    passed (λ m. m < c.in-Some.place → cell_in (bounds_view b.points.items b.private.items at) (Some c.args.row) (Some m) ≡ None)
    c.args.from c.loop-place.first c.checked_sub.result c.checked_sub.ensures
    (λ m low less end. (rw (← c.self.view_is) at c.loop-place.invariant.none) m low less)
    (λ m above end. row_none b.points.items b.private.items at c.args.row m within (c.in-Some.ensures.least m end above)) m low less)

pub loop-place-preserved : goal.loop-place-preserved
loop-place-preserved g c =
    let b = c.self.inside in
    let at = g.R.Rows.at b.finals in
    let within = (rw (← c.self.view_is) at c.requires) in
    let high = from_above c.loop-place.first c.checked_sub.result c.checked_sub.ensures c.in-Some.place c.in-Some.ensures.some.1 in
    let onward = c.loop-place.invariant.onward in
    let empty = sym c.cell_at.ensures.value ∙ no_cell c.cell_at.result (sym c.is_some.ensures ∙ c.if-is_some.false) in
    record {
      onward = omega arith;
      none = rw (← c.self.view_is)
          (one_more (λ m. cell_in (bounds_view b.points.items b.private.items at) (Some c.args.row) (Some m) ≡ None)
          c.args.from c.in-Some.place
          (λ m low less.
          passed (λ m. m < c.in-Some.place → cell_in (bounds_view b.points.items b.private.items at) (Some c.args.row) (Some m) ≡ None)
          c.args.from c.loop-place.first c.checked_sub.result c.checked_sub.ensures
          (λ m low less end. (rw (← c.self.view_is) at c.loop-place.invariant.none) m low less)
          (λ m above end. row_none b.points.items b.private.items at c.args.row m within (c.in-Some.ensures.least m end above)) m low less)
          (rw (← c.self.view_is) at empty));
    }

pub returns-clause-none : goal.returns-clause-none
returns-clause-none g c =
    let b = c.self.inside in
    let at = g.R.Rows.at b.finals in
    let within = (rw (← c.self.view_is) at c.requires) in
    rw (← c.self.view_is)
    (passed (λ m. cell_in (bounds_view b.points.items b.private.items at) (Some c.args.row) (Some m) ≡ None)
    c.args.from c.loop-place.first c.checked_sub.result c.checked_sub.ensures
    (rw (← c.self.view_is) at c.loop-place.invariant.none)
    (λ m above. row_none b.points.items b.private.items at c.args.row m within (c.in_default.ensures.none m above)))
