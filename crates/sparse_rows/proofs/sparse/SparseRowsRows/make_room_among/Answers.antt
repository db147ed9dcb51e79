use Rattle.std.proofs.Common.{◌∙◌, ap, Bool, ◌&&◌, ◌||◌}
use Rattle.std.specs.Prelude.{not, ◌==◌}
use Rattle.dist_rows.specs.Places.{lists}
use Rattle.dist_rows.proofs.Rooms.{all_roomed_is}
use Rattle.sparse_rows.specs.SparseMaps.{rooms_of}
use Rattle.sparse_rows.proofs.sparse.SparseRowsRows.make_room_among.Goals as goal

pub returns-clause-room : goal.returns-clause-room
returns-clause-room c = λ p q.
    c.open_among.ensures.room p q
    ∙ all_roomed_is c.args.list.now c.args.list.now (rooms_of c.know_among.new.self.rows.items) p q
    ∙ ap (λ (b : Bool). (not (p == q) && lists c.args.list.now p && lists c.args.list.now q) || b) (c.in_ok-know_among.ensures.room p q)
