-- The numbers so far are none below the first.
use Rattle.std.proofs.Common.{◌≡◌, drop, nat_le, get_or}
use Rattle.std.specs.List.{list_all}
use Rattle.cert_check.specs.Cycles.{is_normal}
use Rattle.cert_check.proofs.cycle.is_normal.Given as goal

abbrev pub invariant-loop-number : goal.invariant-loop-number
invariant-loop-number l = is_normal l.numbers ≡ list_all (nat_le (get_or l.numbers 0 0)) (drop l.number-index l.numbers)
