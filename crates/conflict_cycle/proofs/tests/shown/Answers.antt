use Rattle.std.proofs.Common.{List, sym, ap, ◌∙◌, subst}
use Rattle.private_elim.specs.ReducedViews.{ReducedView}
use Rattle.shared_graph.specs.Histories.{AreFitting}
use Rattle.shared_graph.specs.Interfaces.{InterfaceView}
use Rattle.conflict_cycle.proofs.ReducedParts.{told_by, parts_published}
use Rattle.conflict_cycle.proofs.tests.shown.Goals as goal

pub finish-requires-clause-fitting : goal.finish-requires-clause-fitting
finish-requires-clause-fitting c =
    subst (AreFitting c.in_ok-shared.shared.face) (sym c.as_slice-2.ensures.value)
    (subst (λ (face : InterfaceView). AreFitting face c.in_ok-summaries.summaries.items) (sym (c.in_ok-shared.ensures.face ∙ c.in_ok-of.ensures.whole))
    c.in_ok-summaries.ensures.fitting)

pub join_cycle-requires-clause-published : goal.join_cycle-requires-clause-published
join_cycle-requires-clause-published c =
    parts_published c.as_slice-3.result.now c.as_slice-2.result.now c.finish.new.self.state
    (c.as_slice-2.ensures.value ∙ c.in_ok-summaries.ensures.summaries
    ∙ ap (λ (parts : List ReducedView). told_by parts) (c.as_slice.ensures.value ∙ sym c.as_slice-3.ensures.value)) c.finish.ensures.finished.agree
