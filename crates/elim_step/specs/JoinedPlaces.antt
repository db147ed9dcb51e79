-- Which places are joined: is_joined. Where there is room to join all places of a list: HasRoomFor.
use Rattle.std.specs.Prelude.{ℕ, ◌+◌, ◌<◌, ◌≤◌, List, Bool, length}
use Rattle.stn_walk.specs.Eliminations.{is_in}
use Rattle.elim_step.specs.PlaceLists.{places_of, room_of, place_at}
use Rattle.elim_step.specs.declared.joins.Joins.{Joins}

-- whether two places are joined
abbrev pub is_joined : Joins → ℕ → ℕ → Bool
is_joined j p q = is_in (places_of j.lists.items p) q

-- the list of each of these places has room for all of them
abbrev pub HasRoomFor : Joins → List ℕ → Type 0
HasRoomFor j places = (m : ℕ) → m < length places
    → length (places_of j.lists.items (place_at places m)) + length places ≤ room_of j.lists.items (place_at places m)
