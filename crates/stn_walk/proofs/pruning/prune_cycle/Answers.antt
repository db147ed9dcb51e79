use Rattle.std.proofs.Common.{ℕ, List, sym, subst}
use Rattle.std.specs.List.{All, Contains}
use Rattle.stn_walk.proofs.pruning.prune_cycle.Goals as goal

pub returns-clause-part : goal.returns-clause-part
returns-clause-part c =
    subst (λ (ns : List ℕ). All (Contains ns) c.new.result) c.arcs.ensures
    (subst (All (Contains c.arcs.result.now)) (sym c.new.ensures) c.in_ok-cycle.ensures.part)
