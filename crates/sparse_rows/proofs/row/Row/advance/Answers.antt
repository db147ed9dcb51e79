use Rattle.std.proofs.Common.{ℕ, subst}
use Rattle.sparse_rows.specs.Entries.{IsSought}
use Rattle.sparse_rows.proofs.RowEntries.{sought_at, sought_here}
use Rattle.sparse_rows.proofs.row.Row.advance.Goals as goal

pub returns-then-is_reached : goal.returns-then-is_reached
returns-then-is_reached c = sought_at _ _ _ c.requires.rising c.requires.within c.requires.below (c.is_reached.ensures c.if-is_reached.true)

pub returns-then-is_at : goal.returns-then-is_at
returns-then-is_at c =
    let there = c.is_at.ensures.yes c.if-is_at.true in
    subst (λ (k : ℕ). IsSought c.args.self.now k c.args.j) there.1 (sought_here c.args.self.now c.args.j c.requires.rising there.0)
