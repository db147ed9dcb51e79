-- The order in which all points of a network were eliminated: order_of, AreReduced.
use Rattle.std.specs.Prelude.{◌≡◌, ℕ, List, map, reverse, slice_get, Some}
use Rattle.stn_model.specs.Joined.{joined_order}
use Rattle.private_elim.specs.ReducedViews.{ReducedView, IsReduced}
use Rattle.shared_graph.specs.States.{State}

-- the private orders by agent, then the shared order, then the reference point
abbrev pub order_of : List ReducedView → State → List ℕ
order_of reduced s = joined_order (map (λ r. r.order) reduced) (reverse s.order)

-- each part is reduced
abbrev pub AreReduced : List ReducedView → Type 0
AreReduced reduced = (a : ℕ) (r : ReducedView) → slice_get reduced a ≡ Some r → IsReduced r.local r.order r.summary
