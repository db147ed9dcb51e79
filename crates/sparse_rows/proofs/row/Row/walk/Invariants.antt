use Rattle.std.proofs.Common.{◌-◌, ℕ, ◌<◌, ◌≤◌, length}
use Rattle.sparse_rows.specs.Entries.{place_at}
use Rattle.sparse_rows.proofs.row.Row.walk.Given as goal

abbrev pub invariant-walk : goal.invariant-walk
invariant-walk l = record {
  end : l.end ≤ length l.self;
  within : l.at ≤ length l.self;
  below : (q : ℕ) → q < l.at → place_at l.self q < l.j;
}

abbrev pub decreases-walk : goal.decreases-walk
decreases-walk l = length l.self - l.at
