use Rattle.std.specs.Prelude.{◌≡◌, ℕ, ◌<◌, length}
use Rattle.elim_step.specs.PlaceLists.{places_of}
use Rattle.elim_step.proofs.joins.Joins.copy.Given as goal

abbrev pub invariant-loop-n : goal.invariant-loop-n
invariant-loop-n l = record {
  len : length l.lists.items ≡ l.n;
  same : (p : ℕ) → p < l.n → places_of l.lists.items p ≡ places_of l.self.lists.items p;
}
