use Rattle.std.proofs.Common.{◌≡◌, ◌+◌, ℕ, take, length}
use Rattle.std.specs.Prelude.{slice_index_or, if◌then◌else◌}
use Rattle.stn_walk.specs.Eliminations.{is_in}
use Rattle.shared_graph.proofs.take.count_gone.Given as goal

abbrev pub invariant-loop-p : goal.invariant-loop-p
invariant-loop-p l = record {
  len : length l.gone ≡ length l.initial.gone;
  each : (p : ℕ) → slice_index_or l.gone p 0 ≡ slice_index_or l.initial.gone p 0 + (if is_in (take l.p-index l.places) p then 1 else 0);
}
