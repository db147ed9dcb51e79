use Rattle.stn_walk.proofs.Joins.{joined-from_order, order-from_joined}
use Rattle.stn_walk.proofs.laws.joined_by_elimination.Goals as goal

pub returns : goal.returns
returns c = λ arcs order i j. (joined-from_order arcs order i j, λ h. order-from_joined arcs order i j h.0 h.1)
