use Rattle.std.proofs.Common.{◌≡◌, ℕ, ◌<◌, length}
use Rattle.std.specs.Prelude.{slice_index_or}
use Rattle.sparse_rows.specs.Entries.{entry_in, entry_or, no_entry}
use Rattle.sparse_rows.proofs.row.Row.spread_entries.Given as goal

abbrev pub invariant-loop-j : goal.invariant-loop-j
invariant-loop-j l = record {
  len : length l.entries.items ≡ l.j;
  each : (q : ℕ) → q < l.j → slice_index_or l.entries.items q no_entry ≡ entry_or (entry_in l.self q) q;
}
