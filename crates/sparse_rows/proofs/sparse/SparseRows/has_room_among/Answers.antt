use Rattle.std.proofs.Common.{arith, sym, ◌≡◌, ◌∙◌}
use Rattle.sparse_rows.proofs.RowSets.{open_more, open_all}
use Rattle.sparse_rows.proofs.sparse.SparseRows.has_room_among.Goals as goal

pub loop-n-preserved : goal.loop-n-preserved
loop-n-preserved c =
    let none : c.count_roomless.result ≡ 0 = omega (arith, c.if-count_roomless-gt0.false) in
    open_more c.args.self.now.rows.items c.args.list.now c.loop-n.n c.loop-n.invariant (sym c.count_roomless.ensures ∙ none)

pub returns : goal.returns
returns c = λ yes. open_all c.args.self.now.rows.items c.args.list.now (λ m q l there apart. c.loop-n.invariant m q (omega (arith, l)) there apart)
