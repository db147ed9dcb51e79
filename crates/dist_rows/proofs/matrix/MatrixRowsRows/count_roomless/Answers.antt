use Rattle.dist_rows.proofs.Rooms.{none_roomless}
use Rattle.dist_rows.proofs.matrix.MatrixRowsRows.count_roomless.Goals as goal

pub returns : goal.returns
returns c = none_roomless c.args.self.now.size c.args._i c.args._list.now c.requires.within c.requires.others
