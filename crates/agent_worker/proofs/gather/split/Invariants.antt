use Rattle.std.specs.Prelude.{◌≡◌, ◌+◌, ◌++◌, vec_len, map}
use Rattle.std.specs.Vec.Iter.{into_iter_len, into_iter_items}
use Rattle.agent_worker.proofs.gather.split.Given as goal

abbrev pub invariant-loop-pass : goal.invariant-loop-pass
invariant-loop-pass g l =
    (vec_len l.passes + into_iter_len l.pass-iterator ≡ vec_len l.fn.done)
    × (l.results.items ++ map (λ w. w.result) (into_iter_items l.pass-iterator) ≡ map (λ w. w.result) l.fn.done.items)
