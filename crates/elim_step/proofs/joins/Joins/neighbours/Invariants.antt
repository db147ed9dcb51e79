use Rattle.std.proofs.Common.{◌&&◌}
use Rattle.elim_step.specs.Eliminates.{remains}
use Rattle.elim_step.specs.JoinedPlaces.{is_joined}
use Rattle.elim_step.proofs.JoinWrites.{IsFiltered}
use Rattle.elim_step.proofs.joins.Joins.neighbours.Given as goal

abbrev pub invariant-loop-p : goal.invariant-loop-p
invariant-loop-p l = record {
  filtered : IsFiltered (λ p. remains l.remain p && is_joined l.self l.k p) l.joined l.p-index l.list.items;
}
