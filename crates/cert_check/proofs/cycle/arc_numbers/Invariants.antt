-- The numbers of all fields are those so far before those of the fields that are left.
use Rattle.std.proofs.Common.{◌≡◌, ◌++◌, length}
use Rattle.std.specs.Option.{option_map}
use Rattle.net_text.specs.Fields.{fields}
use Rattle.cert_check.specs.Certificates.{arc_numbers}
use Rattle.cert_check.proofs.cycle.arc_numbers.Given as goal

abbrev pub invariant-loop-field : goal.invariant-loop-field
invariant-loop-field l = arc_numbers l.net (fields l.line) ≡ option_map (λ more. l.numbers.items ++ more) (arc_numbers l.net (fields l.rest))

abbrev pub decreases-loop-field : goal.decreases-loop-field
decreases-loop-field l = length l.rest
