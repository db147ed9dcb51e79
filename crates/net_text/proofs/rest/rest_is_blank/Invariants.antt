-- The lines so far were skipped.
use Rattle.std.proofs.Common.{◌≡◌, ◌+◌, ◌≤◌, length}
use Rattle.net_text.specs.Lines.{lines, first_unskipped}
use Rattle.net_text.proofs.rest.rest_is_blank.Given as goal

abbrev pub invariant-loop-line : goal.invariant-loop-line
invariant-loop-line l = record {
  same : first_unskipped l.first_line (lines l.bytes) ≡ first_unskipped (l.first_line + l.lines.count) (lines l.lines.rest.now);
  within : l.lines.used + length l.lines.rest.now ≤ length l.bytes;
}

abbrev pub decreases-loop-line : goal.decreases-loop-line
decreases-loop-line l = length l.lines.rest.now
