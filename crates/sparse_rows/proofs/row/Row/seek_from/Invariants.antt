use Rattle.std.proofs.Common.{◌-◌, ℕ, ◌<◌, ◌≤◌, length}
use Rattle.sparse_rows.specs.Entries.{place_at}
use Rattle.sparse_rows.proofs.row.Row.seek_from.Given as goal

abbrev pub invariant-halving : goal.invariant-halving
invariant-halving l = record {
  order : l.low ≤ l.high;
  within : l.high ≤ length l.self;
  below : (q : ℕ) → q < l.low → place_at l.self q < l.j;
  above : (q : ℕ) → l.high ≤ q → q < length l.self → l.j ≤ place_at l.self q;
}

abbrev pub decreases-halving : goal.decreases-halving
decreases-halving l = l.high - l.low
