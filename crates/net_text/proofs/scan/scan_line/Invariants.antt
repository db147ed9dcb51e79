-- The fields put so far, with a space after each, and what is left are the text.
use Rattle.std.proofs.Common.{◌≡◌, length, take}
use Rattle.net_text.proofs.Scanned.{IsSoFar}
use Rattle.net_text.proofs.Takes.{texts}
use Rattle.net_text.proofs.scan.scan_line.Given as goal

abbrev pub invariant-loop-count : goal.invariant-loop-count
invariant-loop-count l = record {
  size : length l.room ≡ length l.fn.room;
  so_far : IsSoFar l.bytes l.rest (texts (take l.count l.room));
}
