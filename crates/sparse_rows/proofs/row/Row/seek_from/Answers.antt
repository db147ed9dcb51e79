use Rattle.std.proofs.Common.{arith, rules}
use Rattle.sparse_rows.proofs.RowEntries.{below_up, above_up}
use Rattle.sparse_rows.proofs.row.Row.seek_from.Goals as goal

pub halving-preserved-then-is_below : goal.halving-preserved-then-is_below
halving-preserved-then-is_below c = record {
  order = omega arith;
  within = c.halving.invariant.within;
  below = λ q less. below_up _ q _ _ c.requires.rising less (omega arith) (c.is_below.ensures.yes (search rules));
  above = c.halving.invariant.above;
}

pub halving-preserved : goal.halving-preserved
halving-preserved c = record {
  order = omega arith;
  within = omega arith;
  below = c.halving.invariant.below;
  above = λ q least less. above_up _ q _ _ c.requires.rising least less (c.is_below.ensures.no (search rules));
}
