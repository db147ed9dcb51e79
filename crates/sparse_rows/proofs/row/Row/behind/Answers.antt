use Rattle.std.proofs.Common.{arith}
use Rattle.sparse_rows.proofs.RowEntries.{known_end, known_upto}
use Rattle.sparse_rows.proofs.row.Row.behind.Goals as goal

pub prove-unreachable-requires : goal.prove-unreachable-requires
prove-unreachable-requires c =
    let lt = known_end c.args.self.now c.args.at c.args.j c.requires.rising c.requires.sought c.requires.known in
    omega (arith, lt, c.len-end.ensures, c.if-prove.true)

pub returns-clause-within : goal.returns-clause-within
returns-clause-within c = (let lt = known_end c.args.self.now c.args.at c.args.j c.requires.rising c.requires.sought c.requires.known in omega (arith, lt))

pub returns-clause-upto : goal.returns-clause-upto
returns-clause-upto c = known_upto c.args.self.now c.args.at c.args.j c.requires.rising c.requires.sought c.requires.known
