use Rattle.std.proofs.Common.{◌≡◌, ℕ, ◌<◌, length}
use Rattle.plain_solve.specs.OrderFacts.{Grows, IsTried}
use Rattle.plain_solve.proofs.order.place_all.Given as goal

abbrev pub invariant-loop-point : goal.invariant-loop-point
invariant-loop-point l = record {
  grows : Grows l.graph l.labels.last_arcs.items l.initial.arranged l.arranged;
  tried : length l.initial.arranged.order.items ≡ length l.arranged.order.items
      → (q : ℕ) → q < l.point → IsTried l.graph l.labels.last_arcs.items l.arranged.places.items q;
}
