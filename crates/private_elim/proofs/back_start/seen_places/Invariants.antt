use Rattle.std.proofs.Common.{◌≡◌, ◌≤◌, not, length, map, take, vec_capacity}
use Rattle.private_elim.proofs.back_start.seen_places.Given as goal

abbrev pub invariant-loop-private : goal.invariant-loop-private
invariant-loop-private l = (l.seen.items ≡ map not (take l.private-index l.fn.private)) × (length l.fn.private ≤ vec_capacity l.seen)
