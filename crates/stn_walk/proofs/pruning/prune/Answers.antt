use Rattle.std.proofs.Common.{ℕ, ◌<◌, ◌∙◌, List, length, sym, subst, arith}
use Rattle.std.specs.List.{All, Contains}
use Rattle.stn_model.specs.Net.{arcs_of}
use Rattle.stn_walk.proofs.Pruned.{IsPruned-step}
use Rattle.stn_walk.proofs.pruning.prune.Goals as goal

pub loop-n-preserved : goal.loop-n-preserved
loop-n-preserved c =
    let lt : c.loop-n.n-index < length c.arcs-arcs.result.now = omega arith in
    record {
      pruned = IsPruned-step (arcs_of c.args.net.now) c.args.from.0 c.args.to.0 c.arcs-arcs.result.now c.loop-n.n-index lt c.loop-n.path
          c.loop-n.invariant.pruned c.go_on.new.self c.in_ok-go_on.ensures.goes;
      room = c.in_ok-go_on.ensures.room ∙ c.loop-n.invariant.room;
    }

pub returns-clause-part : goal.returns-clause-part
returns-clause-part c =
    subst (λ (ns : List ℕ). All (Contains ns) c.new-2.result) c.arcs-arcs.ensures
    (subst (All (Contains c.arcs-arcs.result.now)) (sym (c.new-2.ensures ∙ c.into_arcs.ensures)) c.loop-n.invariant.pruned.part)
