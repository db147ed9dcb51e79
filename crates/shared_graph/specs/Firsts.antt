-- A point that gets its time before all others, and the least one that may be revisited: IsFirstOfAll, IsLeastRevisit.
use Rattle.std.specs.Prelude.{◌≡◌, ℕ, ◌≤◌, [], ◌∷◌, true, None}
use Rattle.stn_model.specs.declared.ids.PointId.{PointId}
use Rattle.shared_graph.specs.declared.events.By.{By}
use Rattle.shared_graph.specs.declared.events.Event.TheVariants.{Revisit}
use Rattle.shared_graph.specs.Interfaces.{InterfaceView, is_listed}
use Rattle.shared_graph.specs.Refusals.{refusal}
use Rattle.shared_graph.specs.States.{State, is_revisited}
use Rattle.shared_graph.specs.Weights.{later_neighbours}

-- all shared points are revisited, and z is its one later neighbour
pub record IsFirstOfAll (face : InterfaceView) (s : State) (k : ℕ) : Type 0 where
  pub revisited : (p : ℕ) → is_listed face p ≡ true → is_revisited s p ≡ true
  pub alone : later_neighbours face s k ≡ 0 ∷ []

-- the revisit of the point is legal, whoever makes it, and of no lesser point is it
pub record IsLeastRevisit (face : InterfaceView) (s : State) (k : PointId) : Type 0 where
  pub legal : (by : By) → refusal face s (record { by = by; event = Revisit k }) ≡ None
  pub least : (by : By) (p : PointId) → refusal face s (record { by = by; event = Revisit p }) ≡ None → k.0 ≤ p.0
