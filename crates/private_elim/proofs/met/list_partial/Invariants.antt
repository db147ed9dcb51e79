use Rattle.std.proofs.Common.{◌&&◌}
use Rattle.stn_walk.specs.Eliminations.{is_in}
use Rattle.elim_step.proofs.JoinWrites.{IsFiltered}
use Rattle.private_elim.specs.Degrees.{is_partial}
use Rattle.private_elim.proofs.met.list_partial.Given as goal

abbrev pub invariant-loop-p : goal.invariant-loop-p
invariant-loop-p l = record {
  filtered : IsFiltered (λ p. is_in l.met p && is_partial l.joins l.gone l.others p) l.met l.p-index l.partial.items;
}
