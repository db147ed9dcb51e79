-- The bytes so far are plain.
use Rattle.std.proofs.Common.{◌-◌, length}
use Rattle.net_text.proofs.Stops.{IsFront}
use Rattle.net_text.proofs.scan.plain_front.Given as goal

abbrev pub invariant-loop-at : goal.invariant-loop-at
invariant-loop-at l = IsFront l.bytes l.at

abbrev pub decreases-loop-at : goal.decreases-loop-at
decreases-loop-at l = length l.bytes - l.at
