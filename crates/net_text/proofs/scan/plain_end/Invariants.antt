-- The bytes so far are plain.
use Rattle.std.proofs.Common.{◌≡◌, true, take}
use Rattle.std.specs.List.{list_all}
use Rattle.net_text.specs.Scans.{is_plain}
use Rattle.net_text.proofs.scan.plain_end.Given as goal

abbrev pub invariant-loop-at : goal.invariant-loop-at
invariant-loop-at l = list_all is_plain (take l.at l.bytes) ≡ true
