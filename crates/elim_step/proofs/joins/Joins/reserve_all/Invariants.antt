use Rattle.std.specs.Prelude.{◌≡◌, ℕ, ◌+◌, ◌<◌, ◌≤◌, length}
use Rattle.elim_step.specs.PlaceLists.{places_of, room_of, place_at}
use Rattle.elim_step.proofs.joins.Joins.reserve_all.Given as goal

abbrev pub invariant-loop-n : goal.invariant-loop-n
invariant-loop-n l = record {
  size : l.self.size ≡ l.initial.self.size;
  places : (p : ℕ) → places_of l.self.lists.items p ≡ places_of l.initial.self.lists.items p;
  room : (m : ℕ) → m < l.n → length (places_of l.self.lists.items (place_at l.places m)) + length l.places ≤ room_of l.self.lists.items (place_at l.places m);
}
