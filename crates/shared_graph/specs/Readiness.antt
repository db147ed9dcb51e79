-- Which points may be revisited, as keys of their places: IsShut, revisit_key, AreKeys, AreKeysBut, IsRelay.
use Rattle.std.specs.Prelude.{◌≡◌, ◌≢◌, ℕ, ◌<◌, ◌≤◌, List, Bool, true, false, length, Option, Some, None, is_some, if◌then◌else◌}
use Rattle.stn_model.specs.declared.ids.PointId.{PointId}
use Rattle.elim_step.specs.Eliminated.{point_at}
use Rattle.shared_graph.specs.declared.events.By.{By}
use Rattle.shared_graph.specs.declared.events.By.TheVariants.{Joiner}
use Rattle.shared_graph.specs.declared.events.Event.TheVariants.{Revisit}
use Rattle.shared_graph.specs.Graphs.{flag_at, places_in}
use Rattle.shared_graph.specs.Interfaces.{InterfaceView}
use Rattle.shared_graph.specs.Refusals.{refusal}
use Rattle.shared_graph.specs.States.{State, point_id}
use Rattle.shared_graph.specs.Weights.{is_joined}

-- no point may be revisited, whoever makes the revisit
abbrev pub IsShut : InterfaceView → State → Type 0
IsShut face s = (by : By) (k : PointId) → is_some (refusal face s (record { by = by; event = Revisit k })) ≡ true

-- the key of a point: it has one where it may be revisited
abbrev pub revisit_key : InterfaceView → State → ℕ → Option ℕ
revisit_key face s p = if is_some (refusal face s (record { by = Joiner; event = Revisit (point_id p) })) then None else Some 0

-- each place has the key of its point, and there is no other key
pub record AreKeys (face : InterfaceView) (s : State) (keys : ℕ → Option ℕ) : Type 0 where
  pub within : (k : ℕ) → k < length (places_in face) → keys k ≡ revisit_key face s (point_at (places_in face) k)
  pub beyond : (k : ℕ) → length (places_in face) ≤ k → keys k ≡ None

-- the same but for one place and those joined with it
pub record AreKeysBut (face : InterfaceView) (s : State) (m : ℕ) (keys : ℕ → Option ℕ) : Type 0 where
  pub others : (k : ℕ) → k < length (places_in face) → k ≢ m → is_joined face s (point_at (places_in face) k) (point_at (places_in face) m) ≡ false
      → keys k ≡ revisit_key face s (point_at (places_in face) k)
  pub beyond : (k : ℕ) → length (places_in face) ≤ k → keys k ≡ None

-- this many places with the keys of their points, and a list that is true of each place
pub record IsRelay (face : InterfaceView) (s : State) (many : ℕ) (key : ℕ → Option ℕ) (flags : List Bool) : Type 0 where
  pub size : many ≡ length (places_in face)
  pub keys : AreKeys face s key
  pub all_len : length flags ≡ length (places_in face)
  pub all : (k : ℕ) → k < length (places_in face) → flag_at flags k ≡ true
