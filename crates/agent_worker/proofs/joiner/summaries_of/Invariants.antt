use Rattle.std.specs.Prelude.{◌≡◌, ◌++◌, map, drop}
use Rattle.agent_worker.proofs.joiner.summaries_of.Given as goal

-- with those of the parts that are left they are all
abbrev pub invariant-loop-part : goal.invariant-loop-part
invariant-loop-part l = l.summaries.items ++ map (λ r. r.summary) (drop l.part-index l.reduced) ≡ map (λ r. r.summary) l.reduced
