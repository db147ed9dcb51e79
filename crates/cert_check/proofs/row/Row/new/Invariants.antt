-- So many points have no distance yet.
use Rattle.std.proofs.Common.{◌≡◌, replicate, vec_len, None}
use Rattle.cert_check.proofs.row.Row.new.Given as goal

abbrev pub invariant-loop-point : goal.invariant-loop-point
invariant-loop-point l = record { items : l.distances.items ≡ replicate l._point None; len : vec_len l.distances ≡ l._point }
