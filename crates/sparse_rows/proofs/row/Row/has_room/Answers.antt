use Rattle.std.proofs.Common.{ap, ◌∙◌}
use Rattle.sparse_rows.specs.declared.entry.Entry.{Entry}
use Rattle.sparse_rows.specs.Entries.{is_open_origin}
use Rattle.sparse_rows.proofs.RowEntries.{room_there, room_missing}
use Rattle.sparse_rows.proofs.row.Row.has_room.Goals as goal

pub returns-then-is_at : goal.returns-then-is_at
returns-then-is_at c =
    c.is_open.ensures ∙ ap (λ (e : Entry). is_open_origin e.origin) c.entry.ensures
    ∙ room_there c.args.self.now c.args.at c.args.j c.requires.sought (c.is_at.ensures.yes c.if-is_at.true).0 (c.is_at.ensures.yes c.if-is_at.true).1

pub returns : goal.returns
returns c = room_missing c.args.self.now c.args.at c.args.j c.requires.rising c.requires.sought (c.is_at.ensures.no c.if-is_at.false)
