-- The text says what is left says, from here on.
use Rattle.std.proofs.Common.{length}
use Rattle.script_text.specs.Scripts.{reading_of}
use Rattle.script_text.proofs.Turns.{IsLeft}
use Rattle.script_text.proofs.read.read_script.Given as goal

abbrev pub invariant-loop-text : goal.invariant-loop-text
invariant-loop-text l = IsLeft l.net l.first_line l.bytes (reading_of l.stage) l.lines.rest.now l.lines.used l.lines.count

abbrev pub decreases-loop-text : goal.decreases-loop-text
decreases-loop-text l = length l.lines.rest.now
