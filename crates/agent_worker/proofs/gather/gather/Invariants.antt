use Rattle.std.specs.Vec.Iter.{into_iter_items}
use Rattle.agent_worker.proofs.Gathers.{IsGathering}
use Rattle.agent_worker.proofs.gather.gather.Given as goal

abbrev pub invariant-loop-worked : goal.invariant-loop-worked
invariant-loop-worked l = IsGathering l.fn.results.items (into_iter_items l.worked-iterator) l.parts.items
