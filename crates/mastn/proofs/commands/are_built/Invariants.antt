use Rattle.std.proofs.Common.{◌≡◌, true, take}
use Rattle.mastn.specs.Commands.{are_built}
use Rattle.mastn.proofs.commands.are_built.Given as goal

abbrev pub invariant-loop-command : goal.invariant-loop-command
invariant-loop-command l = are_built (take l.command-index l.commands) ≡ true
