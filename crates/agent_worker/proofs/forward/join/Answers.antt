use Rattle.std.proofs.Common.{List, ap, sym, ◌∙◌, refl, subst, map}
use Rattle.std.specs.Prelude.{is_some}
use Rattle.private_elim.specs.ReducedViews.{ReducedView}
use Rattle.shared_graph.specs.Histories.{AreFitting}
use Rattle.shared_graph.specs.Interfaces.{InterfaceView, Summary}
use Rattle.shared_graph.specs.Journals.{AgreeWith}
use Rattle.shared_graph.specs.declared.events.Phase.TheVariants.{Order}
use Rattle.agent_worker.specs.Phases.{GoesOn}
use Rattle.agent_worker.proofs.Comings.{ordered, none_of, then_done}
use Rattle.agent_worker.proofs.forward.join.Goals as goal

pub finish-requires-clause-fitting : goal.finish-requires-clause-fitting
finish-requires-clause-fitting c =
    let listed = c.as_slice-3.ensures.value ∙ c.in_ok-summaries.ensures ∙ ap (λ (rs : List ReducedView). map (λ r. r.summary) rs) c.as_slice.ensures.value in
    subst (λ (f : InterfaceView). AreFitting f c.as_slice-3.result.now) (sym c.chosen-shared.ensures.face)
    (subst (AreFitting c.args.kept.face) (sym listed) c.requires.fitting)

pub finish-requires-clause-agree : goal.finish-requires-clause-agree
finish-requires-clause-agree c =
    subst (λ (ss : List Summary). AgreeWith ss c.chosen-shared.result.state) (c.as_slice-2.ensures.value ∙ sym c.as_slice-3.ensures.value)
    c.chosen-shared.ensures.agree

pub returns-then-is_some : goal.returns-then-is_some
returns-then-is_some c =
    let listed = c.as_slice-3.ensures.value ∙ c.in_ok-summaries.ensures ∙ ap (λ (rs : List ReducedView). map (λ r. r.summary) rs) c.as_slice.ensures.value in
    let on = subst (λ (ss : List Summary). GoesOn ss Order c.args.kept c.chosen-shared.result) (c.as_slice-2.ensures.value ∙ sym c.as_slice-3.ensures.value)
    c.chosen-shared.ensures in (
      refl,
      ordered c.args.reduced.items c.as_slice-3.result.now c.args.kept c.chosen-shared.result c.finish.new.self listed on c.finish.ensures.finished
          c.requires.journal c.journal-journal.ensures.replays,
      ap is_some (sym c.cycle.ensures.value) ∙ sym c.is_some.ensures ∙ c.if-is_some.true,
    )

pub returns : goal.returns
returns c =
    let listed = c.as_slice-3.ensures.value ∙ c.in_ok-summaries.ensures ∙ ap (λ (rs : List ReducedView). map (λ r. r.summary) rs) c.as_slice.ensures.value in
    let on = subst (λ (ss : List Summary). GoesOn ss Order c.args.kept c.chosen-shared.result) (c.as_slice-2.ensures.value ∙ sym c.as_slice-3.ensures.value)
    c.chosen-shared.ensures in
    let going = ap is_some (sym c.cycle.ensures.value) ∙ sym c.is_some.ensures ∙ c.if-is_some.false in (
      refl,
      ordered c.args.reduced.items c.as_slice-3.result.now c.args.kept c.chosen-shared.result c.finish.new.self listed on c.finish.ensures.finished
          c.requires.journal c.journal-journal.ensures.replays,
      then_done c.finish.new.self.state.stop going c.in_ok-finish.ensures.done,
      none_of c.finish.new.self.state.stop going,
    )
