use Rattle.std.specs.Prelude.{◌≡◌, ◌-◌, ◌<◌, ◌≤◌}
use Rattle.elim_step.specs.Eliminates.{is_neighbour}
use Rattle.elim_step.specs.Blocks.{IsBlock, items_of}
use Rattle.elim_step.proofs.neighbours.block_from.Given as goal

abbrev pub invariant-filling : goal.invariant-filling
invariant-filling g l = record {
  from : l.block.from ≡ l.from;
  block : IsBlock (is_neighbour l.remain (g.R.Rows.at l.rows) l.k) l.from l.block.end (items_of l.block);
  within : l.block.end ≤ g.R.Rows.places l.rows;
  onward : 0 < l.block.count → l.from < l.block.end;
}

abbrev pub decreases-filling : goal.decreases-filling
decreases-filling g l = g.R.Rows.places l.rows - l.block.end
