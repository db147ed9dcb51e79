use Rattle.std.proofs.Common.{◌≡◌, take, map}
use Rattle.agent_worker.specs.Backs.{final_entry}
use Rattle.agent_worker.proofs.back.finals_of.Given as goal

abbrev pub invariant-loop-entry : goal.invariant-loop-entry
invariant-loop-entry l = l.finals.items ≡ map (final_entry l.fn.shared.face l.fn.shared.state) (take l.entry-index l.entries)
