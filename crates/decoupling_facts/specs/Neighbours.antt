-- Later neighbours of an elimination order (Rose, Tarjan and Lueker 1976), and which of them have times where points get theirs in the order
-- turned round, each after its later neighbours: the laws JoinedTurns, LaterNeighboursMeet, TimedNeighboursAreLater.
use Rattle.std.specs.Prelude.{◌≡◌, ◌≢◌, ◌↔◌, ℕ, Bool, true, false, List}
use Rattle.stn_model.specs.declared.ids.Constraint.{Constraint}
use Rattle.stn_model.specs.Joined.{IsJoined, IsLaterNeighbour}
use Rattle.stn_walk.specs.Eliminations.{is_in}
use Rattle.decoupling_facts.specs.Windows.{IsNear}

-- an order joins points in both directions
abbrev pub JoinedTurns : Type 0
JoinedTurns = (arcs : List Constraint) (order : List ℕ) (i j : ℕ) → IsJoined arcs order i j → IsJoined arcs order j i

-- two later neighbours of a point are joined
abbrev pub LaterNeighboursMeet : Type 0
LaterNeighboursMeet =
    (arcs : List Constraint) (order : List ℕ) (k i j : ℕ) → IsLaterNeighbour arcs order k i → IsLaterNeighbour arcs order k j → i ≢ j
    → IsJoined arcs order i j

-- where each point that has a time has later neighbours with times, and k has none though its later neighbours do, of which z is one, the near points
-- of k are exactly its later neighbours
abbrev pub TimedNeighboursAreLater : Type 0
TimedNeighboursAreLater =
    (arcs : List Constraint) (order : List ℕ) (joined : ℕ → ℕ → Bool) → ((i j : ℕ) → (joined i j ≡ true) ↔ IsJoined arcs order i j)
    → (is_set : ℕ → Bool) → ((i j : ℕ) → is_set i ≡ true → i ≢ 0 → IsLaterNeighbour arcs order i j → is_set j ≡ true)
    → (k : ℕ) → is_in order k ≡ true → is_set k ≡ false → IsLaterNeighbour arcs order k 0
    → ((j : ℕ) → IsLaterNeighbour arcs order k j → is_set j ≡ true)
    → (j : ℕ) → IsNear joined is_set k j ↔ IsLaterNeighbour arcs order k j
