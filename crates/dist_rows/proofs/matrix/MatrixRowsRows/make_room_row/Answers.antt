use Rattle.dist_rows.proofs.Rooms.{row_full}
use Rattle.dist_rows.proofs.matrix.MatrixRowsRows.make_room_row.Goals as goal

pub returns-clause-room : goal.returns-clause-room
returns-clause-room c = row_full c.args.self.now.size c.args._i c.args._list.now c.requires.within c.requires.others
