-- Where the order of all points joins the private points of an agent: PrivatePairsJoin.
use Rattle.std.specs.Prelude.{◌≡◌, ◌↔◌, ℕ, List, true, ◌||◌, Some, slice_get}
use Rattle.stn_model.specs.Joined.{IsJoined}
use Rattle.stn_model.specs.Kinds.{is_shared}
use Rattle.stn_model.specs.Net.{Net, arcs_of}
use Rattle.stn_model.specs.Valid.{IsNetwork}
use Rattle.stn_walk.specs.Eliminations.{is_in}
use Rattle.private_elim.specs.Locals.{arcs_in, is_private_in}
use Rattle.private_elim.specs.ReducedViews.{ReducedView}
use Rattle.shared_graph.specs.States.{State}
use Rattle.conflict_cycle.specs.Belongs.{AreReducedOf}
use Rattle.conflict_cycle.specs.PartOrders.{order_of, AreReduced}

-- a private point of an agent is joined with another point, over all arcs of the network in the order of all points, exactly where it is over the
-- agent's own arcs in its private order
abbrev pub PrivatePairsJoin : Type 0
PrivatePairsJoin =
    (net : Net) (reduced : List ReducedView) (s : State) → IsNetwork net → AreReducedOf net reduced → AreReduced reduced
    → ((p : ℕ) → is_in s.order p ≡ true → is_shared net p ≡ true)
    → (a : ℕ) (r : ReducedView) → slice_get reduced a ≡ Some r
    → (i j : ℕ) → (is_private_in r.local i || is_private_in r.local j) ≡ true
    → IsJoined (arcs_of net) (order_of reduced s) i j ↔ IsJoined (arcs_in r.local) r.order i j
