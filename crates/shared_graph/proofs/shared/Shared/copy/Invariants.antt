use Rattle.std.proofs.Common.{◌≡◌, ◌≤◌, take, vec_len}
use Rattle.std.specs.Vec.{vec_capacity}
use Rattle.shared_graph.proofs.shared.Shared.copy.Given as goal

-- the entries so far, with room for the others and the revisits that are left
abbrev pub invariant-loop-entry : goal.invariant-loop-entry
invariant-loop-entry l = record {
  items : l.journal.items ≡ take l.entry-index l.entry-items;
  len : vec_len l.journal ≡ l.entry-index;
  room : l.room ≤ vec_capacity l.journal;
}
