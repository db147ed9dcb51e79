use Rattle.std.proofs.Common.{◌≡◌, ap, ◌∙◌, arith, to_z, of_z}
use Rattle.std.specs.Int.{w128}
use Rattle.std.proofs.lemmas.Int.{ints}
use Rattle.dist_rows.specs.Cells.{weight_in}
use Rattle.sparse_rows.specs.declared.entry.Entry.{Entry}
use Rattle.sparse_rows.specs.Entries.{cell_in}
use Rattle.sparse_rows.proofs.RowEntries.{cell_there, weight_missing}
use Rattle.sparse_rows.proofs.row.Row.weight.Goals as goal

pub returns-then-is_at : goal.returns-then-is_at
returns-then-is_at c =
    let there = c.is_at.ensures.yes c.if-is_at.true in
    let kept : to_z w128 (of_z w128 c.plain_weight.result) ≡ c.plain_weight.result = omega (arith, ints) in
    kept ∙ c.plain_weight.ensures ∙ ap (λ (e : Entry). weight_in (cell_in e)) c.entry.ensures
    ∙ ap weight_in (cell_there c.args.self.now c.args.at c.args.j c.requires.sought there.0 there.1)

pub returns : goal.returns
returns c = weight_missing c.args.self.now c.args.at c.args.j c.requires.rising c.requires.sought (c.is_at.ensures.no c.if-is_at.false)
