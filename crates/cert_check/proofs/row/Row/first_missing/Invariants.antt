-- The points so far have a distance.
use Rattle.std.proofs.Common.{◌≡◌, ◌<◌, ℕ, false}
use Rattle.cert_check.specs.Rows.{distance_to, is_missing}
use Rattle.cert_check.proofs.row.Row.first_missing.Given as goal

abbrev pub invariant-loop-p : goal.invariant-loop-p
invariant-loop-p l = (k : ℕ) → k < l.p → is_missing (distance_to l.self k) ≡ false
