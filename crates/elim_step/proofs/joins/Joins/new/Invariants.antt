use Rattle.std.specs.Prelude.{◌≡◌, ℕ, length, []}
use Rattle.elim_step.specs.PlaceLists.{places_of}
use Rattle.elim_step.proofs.joins.Joins.new.Given as goal

abbrev pub invariant-loop-p : goal.invariant-loop-p
invariant-loop-p l = record {
  len : length l.lists.items ≡ l._p;
  empty : (p : ℕ) → places_of l.lists.items p ≡ [];
}
