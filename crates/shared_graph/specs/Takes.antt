-- When a point may be eliminated but for a negative sum, and how many points an elimination and a revisit look at: MayEliminate, is_left, left_count,
-- later_count, degree_of.
use Rattle.std.specs.Prelude.{◌≡◌, ℕ, Bool, ◌&&◌, not, filter, length, Option, Some, None, ◌⊎◌, if◌then◌else◌}
use Rattle.stn_walk.specs.Eliminations.{is_in}
use Rattle.stn_model.specs.declared.ids.PointId.{PointId}
use Rattle.shared_graph.specs.declared.events.By.{By}
use Rattle.shared_graph.specs.declared.events.Event.TheVariants.{Eliminate}
use Rattle.shared_graph.specs.Graphs.{places_in}
use Rattle.shared_graph.specs.Interfaces.{InterfaceView, is_listed}
use Rattle.shared_graph.specs.Refusals.{refusal, negative}
use Rattle.shared_graph.specs.States.{State}
use Rattle.shared_graph.specs.Weights.{is_joined, later_neighbours}

-- an elimination of the point is legal, or is refused for a negative sum alone
abbrev pub MayEliminate : InterfaceView → State → By → PointId → Type 0
MayEliminate face s by k =
    (refusal face s (record { by = by; event = Eliminate k }) ≡ None)
    ⊎ ((i : ℕ) × (refusal face s (record { by = by; event = Eliminate k }) ≡ Some (negative i)))

-- a point that is joined with k and not eliminated, and how many there are
abbrev pub is_left : InterfaceView → State → ℕ → ℕ → Bool
is_left face s k p = is_joined face s k p && not (is_in s.order p)

abbrev pub left_count : InterfaceView → State → ℕ → ℕ
left_count face s k = length (filter (is_left face s k) (places_in face))

abbrev pub later_count : InterfaceView → State → ℕ → ℕ
later_count face s k = length (later_neighbours face s k)

-- the points that are left about a shared point that is left itself
abbrev pub degree_of : InterfaceView → State → ℕ → Option ℕ
degree_of face s k = if is_listed face k && not (is_in s.order k) then Some (left_count face s k) else None
