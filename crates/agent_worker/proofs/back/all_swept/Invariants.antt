use Rattle.std.specs.Prelude.{◌≡◌, ◌++◌, map, Ok}
use Rattle.std.specs.Vec.Iter.{into_iter_items}
use Rattle.agent_worker.proofs.back.all_swept.Given as goal

abbrev pub invariant-loop-one : goal.invariant-loop-one
invariant-loop-one l = map (λ b. Ok b) l.all.items ++ into_iter_items l.one-iterator ≡ l.fn.swept.items
