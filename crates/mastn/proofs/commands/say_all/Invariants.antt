use Rattle.std.proofs.Common.{map}
use Rattle.mastn.proofs.CommandTexts.{IsSaid}
use Rattle.mastn.proofs.commands.say_all.Given as goal

abbrev pub invariant-loop-command : goal.invariant-loop-command
invariant-loop-command l = IsSaid l.fn.joined.network (map (λ p. p.0) l.fn.joined.order) l.commands l.command-index l.fn.out.items l.out.items
