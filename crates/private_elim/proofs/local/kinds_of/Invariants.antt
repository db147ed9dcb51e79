use Rattle.std.proofs.Common.{◌≡◌, ◌≤◌, length, map, take, vec_capacity}
use Rattle.stn_model.specs.Kinds.{is_shared}
use Rattle.private_elim.proofs.local.kinds_of.Given as goal

abbrev pub invariant-loop-p : goal.invariant-loop-p
invariant-loop-p l = (l.kinds.items ≡ map (is_shared l.net) (take l.p-index l.points)) × (length l.points ≤ vec_capacity l.kinds)
