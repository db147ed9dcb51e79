-- Lists of places, and the room of pairs that lists name.
--   lists, AreWithin, AreRisingPlaces   a place of a list; places below a size; places that rise
--   count_roomless                      how many places of a list have no room
--   IsListing                           a list of the places of an interval that pass a test
use Rattle.std.specs.Prelude.{◌≡◌, ℕ, ◌<◌, List, Bool, ◌&&◌, not, ◌==◌, nat_le, nat_lt, length, slice_index_or}
use Rattle.std.specs.List.{list_any, count_by}

-- whether a place is one of a list
abbrev pub lists : List ℕ → ℕ → Bool
lists places p = list_any (λ x. p == x) places

-- the places of a list are below a size
abbrev pub AreWithin : ℕ → List ℕ → Type 0
AreWithin size places = (m : ℕ) → m < length places → slice_index_or places m 0 < size

-- the places of a list rise
abbrev pub AreRisingPlaces : List ℕ → Type 0
AreRisingPlaces places = (m n : ℕ) → m < n → n < length places → slice_index_or places m 0 < slice_index_or places n 0

-- whether the pair from a place to another one has no room
abbrev pub is_roomless : (ℕ → ℕ → Bool) → ℕ → ℕ → Bool
is_roomless room i j = not (i == j) && not (room i j)

-- how many pairs from a place to another one of a list have no room
abbrev pub count_roomless : (ℕ → ℕ → Bool) → ℕ → List ℕ → ℕ
count_roomless room i places = count_by (is_roomless room i) places

-- the list holds, rising, exactly the places from a on and before b that pass the test
pub record IsListing (test : ℕ → Bool) (a b : ℕ) (places : List ℕ) : Type 0 where
  pub rising : AreRisingPlaces places
  pub each : (p : ℕ) → lists places p ≡ (nat_le a p && nat_lt p b && test p)
