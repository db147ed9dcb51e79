-- The fields so far write such numbers.
use Rattle.std.proofs.Common.{◌≡◌, length}
use Rattle.std.specs.List.{list_all}
use Rattle.net_text.specs.Fields.{fields}
use Rattle.cert_check.specs.Certificates.{is_index}
use Rattle.cert_check.proofs.cycle.are_indexes.Given as goal

abbrev pub invariant-loop-field : goal.invariant-loop-field
invariant-loop-field l = list_all is_index (fields l.line) ≡ list_all is_index (fields l.rest)

abbrev pub decreases-loop-field : goal.decreases-loop-field
decreases-loop-field l = length l.rest
