-- The arcs so far are not broken.
use Rattle.std.proofs.Common.{◌≡◌, ◌<◌, ℕ, false}
use Rattle.stn_model.specs.Arcs.{arc_at}
use Rattle.stn_model.specs.Net.{arcs_of}
use Rattle.cert_check.specs.Rows.{is_broken}
use Rattle.cert_check.proofs.row.Row.first_broken.Given as goal

abbrev pub invariant-loop-n : goal.invariant-loop-n
invariant-loop-n l = (k : ℕ) → k < l.n → is_broken l.self (arc_at (arcs_of l.net) k) ≡ false
