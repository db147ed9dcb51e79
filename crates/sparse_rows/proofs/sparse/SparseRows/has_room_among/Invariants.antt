use Rattle.std.proofs.Common.{◌≡◌, ◌≢◌, ℕ, ◌<◌, true}
use Rattle.std.specs.Prelude.{slice_index_or}
use Rattle.dist_rows.specs.Places.{lists}
use Rattle.sparse_rows.specs.SparseMaps.{rooms_of}
use Rattle.sparse_rows.proofs.sparse.SparseRows.has_room_among.Given as goal

abbrev pub invariant-loop-n : goal.invariant-loop-n
invariant-loop-n l =
    (m q : ℕ) → m < l.n → lists l.list q ≡ true → slice_index_or l.list m 0 ≢ q → rooms_of l.self.rows.items (slice_index_or l.list m 0) q ≡ true
