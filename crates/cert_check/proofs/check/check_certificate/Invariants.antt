-- The text shows what is left shows, from here on.
use Rattle.std.proofs.Common.{length}
use Rattle.cert_check.proofs.Turns.{IsLeft}
use Rattle.cert_check.proofs.check.check_certificate.Given as goal

abbrev pub invariant-loop-text : goal.invariant-loop-text
invariant-loop-text l = IsLeft l.net l.first_line l.bytes l.stage l.lines.rest.now l.lines.used l.lines.count

abbrev pub decreases-loop-text : goal.decreases-loop-text
decreases-loop-text l = length l.lines.rest.now
