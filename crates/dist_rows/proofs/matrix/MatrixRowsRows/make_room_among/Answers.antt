use Rattle.dist_rows.proofs.Rooms.{all_full}
use Rattle.dist_rows.proofs.matrix.MatrixRowsRows.make_room_among.Goals as goal

pub returns-clause-room : goal.returns-clause-room
returns-clause-room c = all_full c.args.self.now.size c.args._list.now c.requires.within
