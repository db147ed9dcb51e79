-- The text so far, and the steps that are left, are the whole.
use Rattle.std.proofs.Common.{◌≡◌, ◌++◌, drop}
use Rattle.json_net.specs.Paths.{path_text, steps_text}
use Rattle.json_net.proofs.path.Path.text.Given as goal

abbrev pub invariant-loop-step : goal.invariant-loop-step
invariant-loop-step l = l.text.items ++ steps_text (drop l.step-index l.step-items) ≡ path_text l.fn.self
