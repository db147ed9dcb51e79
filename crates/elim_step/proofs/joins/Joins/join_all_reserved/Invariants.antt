use Rattle.std.specs.Prelude.{◌≡◌, ℕ, ◌+◌, ◌<◌, ◌≤◌, ◌&&◌, ◌||◌, not, ◌==◌, length, take}
use Rattle.stn_walk.specs.Eliminations.{is_in}
use Rattle.elim_step.specs.PlaceLists.{places_of, room_of, place_at}
use Rattle.elim_step.specs.JoinedPlaces.{is_joined}
use Rattle.elim_step.proofs.joins.Joins.join_all_reserved.Given as goal

abbrev pub invariant-loop-n : goal.invariant-loop-n
invariant-loop-n l = record {
  size : l.self.size ≡ l.initial.self.size;
  pairs : (p q : ℕ) → is_joined l.self p q ≡ (is_joined l.initial.self p q || (not (p == q) && is_in (take l.n l.places) p && is_in l.places q));
  room : (m : ℕ) → l.n ≤ m → m < length l.places
      → length (places_of l.self.lists.items (place_at l.places m)) + length l.places ≤ room_of l.self.lists.items (place_at l.places m);
}
