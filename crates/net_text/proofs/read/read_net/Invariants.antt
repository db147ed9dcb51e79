-- What is left of the text, from the stage that it has come to, says what the whole text says.
use Rattle.std.proofs.Common.{◌≡◌, ◌+◌, ◌≤◌, length}
use Rattle.net_text.specs.Lines.{lines}
use Rattle.net_text.specs.Networks.{text_of, read_from}
use Rattle.net_text.proofs.read.read_net.Given as goal

abbrev pub invariant-loop-step : goal.invariant-loop-step
invariant-loop-step l = record {
  same : text_of l.fn.bytes ≡ read_from l.stage (l.lines.count + 1) l.lines.used (lines l.lines.rest.now);
  within : l.lines.used + length l.lines.rest.now ≤ length l.fn.bytes;
}

abbrev pub decreases-loop-step : goal.decreases-loop-step
decreases-loop-step l = length l.lines.rest.now
