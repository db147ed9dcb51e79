use Rattle.mastn.proofs.CommandTexts.{AreWindowsBelow}
use Rattle.mastn.proofs.commands.least_windows.Given as goal

abbrev pub invariant-loop-point : goal.invariant-loop-point
invariant-loop-point l = AreWindowsBelow l.fn.joined.network l.point l.windows.items
