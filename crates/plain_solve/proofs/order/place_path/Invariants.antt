use Rattle.plain_solve.specs.OrderFacts.{Grows}
use Rattle.plain_solve.proofs.order.place_path.Given as goal

abbrev pub invariant-loop-k : goal.invariant-loop-k
invariant-loop-k l = Grows l.graph l.labels.last_arcs.items l.initial.arranged l.arranged
