use Rattle.std.proofs.Common.{arith, ℕ, ap, ◌∙◌, ◌+◌, ◌≡◌, ◌&&◌, List}
use Rattle.std.specs.Prelude.{slice_index_or, ◌==◌, not, if◌then◌else◌}
use Rattle.dist_rows.specs.Places.{is_roomless}
use Rattle.sparse_rows.specs.declared.entry.Entry.{Entry}
use Rattle.sparse_rows.specs.Entries.{opens}
use Rattle.sparse_rows.specs.SparseMaps.{rooms_of}
use Rattle.sparse_rows.proofs.RowSets.{upto_later, count_more, at_most_one}
use Rattle.sparse_rows.proofs.sparse.SparseRowsRows.count_roomless.Goals as goal

pub loop-n-preserved : goal.loop-n-preserved
loop-n-preserved c =
    let rows = c.args.self.now.rows.items in
    let j = slice_index_or c.args.list.now c.loop-n.n 0 in
    let has : c.room_from-next.result.1 ≡ rooms_of rows c.args.i j =
    c.room_from-next.ensures.value ∙ ap (λ (es : List Entry). opens es j) c.row-row.ensures.value in
    let one : c.roomless-count.result ≡ (if is_roomless (rooms_of rows) c.args.i j then 1 else 0) =
    c.roomless-count.ensures ∙ (λ t. if not (c.args.i == j) && not (has t) then 1 else 0) in
    let more = count_more (rooms_of rows) c.args.i c.args.list.now c.loop-n.n c.loop-n.count c.loop-n-test.true c.loop-n.invariant.count in
    let most = at_most_one (is_roomless (rooms_of rows) c.args.i j) in
    record {
      few = omega (arith, most, one, c.loop-n.invariant.few);
      count = ap (λ (x : ℕ). c.loop-n.count + x) one ∙ more;
      within = c.room_from-next.ensures.next.within;
      before = λ m q later there less. upto_later c.args.list.now c.loop-n.n m _ 0 c.requires.rising c.loop-n-test.true (c.room_from-next.ensures.next.below q less)
          later there;
    }
