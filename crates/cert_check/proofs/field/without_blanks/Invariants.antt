-- The bytes so far are blanks.
use Rattle.std.proofs.Common.{◌≡◌, drop}
use Rattle.net_text.specs.Fields.{fields}
use Rattle.cert_check.proofs.field.without_blanks.Given as goal

abbrev pub invariant-loop-i : goal.invariant-loop-i
invariant-loop-i l = fields (drop l.i l.line) ≡ fields l.line
