use Rattle.std.proofs.Common.{◌∙◌, sym, ap, Bool, ◌&&◌, ◌||◌}
use Rattle.std.specs.Prelude.{not, ◌==◌}
use Rattle.dist_rows.specs.Places.{lists}
use Rattle.dist_rows.proofs.Rooms.{row_roomed_is}
use Rattle.sparse_rows.specs.SparseMaps.{rooms_of}
use Rattle.sparse_rows.proofs.RowSets.{row_open_already}
use Rattle.sparse_rows.proofs.sparse.SparseRowsRows.make_room_row.Goals as goal

pub returns-clause-room : goal.returns-clause-room
returns-clause-room c = λ p q.
    c.open_row.ensures.room p q
    ∙ row_roomed_is c.args.i c.args.list.now (rooms_of c.know_row.new.self.rows.items) p q
    ∙ ap (λ (b : Bool). (not (p == q) && (p == c.args.i) && lists c.args.list.now q) || b)
    (c.in_ok-know_row.ensures.room p q ∙ c.in_ok-know_column.ensures.room p q)

pub returns-then-count_roomless-eq0-clause-room : goal.returns-then-count_roomless-eq0-clause-room
returns-then-count_roomless-eq0-clause-room c =
    row_open_already c.args.self.now.rows.items c.args.i c.args.list.now (sym c.count_roomless.ensures ∙ c.if-count_roomless-eq0.true)
