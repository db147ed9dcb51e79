use Rattle.agent_worker.proofs.LocalLists.{AreLocalsBelow}
use Rattle.joined_answer.proofs.parts.locals_of.Given as goal

abbrev pub invariant-loop-agent : goal.invariant-loop-agent
invariant-loop-agent l = AreLocalsBelow l.net l.agent l.locals.items
