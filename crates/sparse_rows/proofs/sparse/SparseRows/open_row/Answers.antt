use Rattle.std.proofs.Common.{◌∙◌}
use Rattle.sparse_rows.specs.SparseMaps.{rooms_of}
use Rattle.dist_rows.proofs.Rooms.{row_more}
use Rattle.sparse_rows.proofs.RowSets.{below_later}
use Rattle.sparse_rows.proofs.sparse.SparseRows.open_row.Goals as goal

pub loop-n-preserved : goal.loop-n-preserved
loop-n-preserved c = record {
  size = c.open_from-at.ensures.size ∙ c.loop-n.invariant.size;
  cells = λ p q. c.open_from-at.ensures.cells p q ∙ c.loop-n.invariant.cells p q;
  more = λ p q h. c.open_from-at.ensures.more p q (c.loop-n.invariant.more p q h);
  room = λ p q. row_more c.args.i c.args.list.now c.loop-n.n (rooms_of c.loop-n.self.rows.items) (rooms_of c.open_from-at.new.self.rows.items)
      c.loop-n-test.true c.open_from-at.ensures.room p q ∙ c.loop-n.invariant.room p q;
  within = c.open_from-at.ensures.within;
  before = λ m q later there less. below_later c.args.list.now c.loop-n.n m _ _ c.requires.rising c.loop-n-test.true (c.open_from-at.ensures.before q less)
      later there;
}
