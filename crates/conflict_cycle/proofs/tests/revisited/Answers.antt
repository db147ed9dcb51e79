use Rattle.std.proofs.Common.{List, Option, ◌≡◌, sym, ap, ◌∙◌, subst}
use Rattle.std.specs.Prelude.{is_some}
use Rattle.shared_graph.specs.Histories.{AreFitting}
use Rattle.shared_graph.specs.Interfaces.{InterfaceView, Summary}
use Rattle.shared_graph.specs.Journals.{AgreeWith, IsFinished}
use Rattle.shared_graph.specs.declared.events.Phase.TheVariants.{Order}
use Rattle.shared_graph.specs.declared.events.SharedCycle.{SharedCycle}
use Rattle.conflict_cycle.proofs.MadeParts.{finished_stands, not_stopped, order_stays, stop_stays, untimed}
use Rattle.conflict_cycle.proofs.ReducedParts.{parts_published}
use Rattle.conflict_cycle.proofs.tests.revisited.Goals as goal

pub finish-requires-clause-fitting : goal.finish-requires-clause-fitting
finish-requires-clause-fitting c =
    subst (AreFitting c.in_ok-shared.shared.face) (sym c.as_slice.ensures.value)
    (subst (λ (face : InterfaceView). AreFitting face c.in_ok-summaries.summaries.items) (sym (c.in_ok-shared.ensures.face ∙ c.in_ok-of.ensures.whole))
    c.in_ok-summaries.ensures.fitting)

pub finish-requires-2-clause-ready : goal.finish-requires-2-clause-ready
finish-requires-2-clause-ready c =
    not_stopped (is_some c.finish.new.self.state.stop)
    (ap (λ (o : Option SharedCycle). is_some o) (sym c.cycle.ensures.value) ∙ sym c.is_some.ensures ∙ c.if-is_some.false) c.in_ok-finish.ensures.done

pub finish-requires-2-clause-fitting : goal.finish-requires-2-clause-fitting
finish-requires-2-clause-fitting c =
    subst (λ (face : InterfaceView). AreFitting face c.as_slice-2.result.now) (sym c.finish.ensures.finished.face)
    (subst (AreFitting c.in_ok-shared.shared.face) (sym c.as_slice-2.ensures.value)
    (subst (λ (face : InterfaceView). AreFitting face c.in_ok-summaries.summaries.items) (sym (c.in_ok-shared.ensures.face ∙ c.in_ok-of.ensures.whole))
    c.in_ok-summaries.ensures.fitting))

pub finish-requires-2-clause-agree : goal.finish-requires-2-clause-agree
finish-requires-2-clause-agree c =
    subst (λ (told : List Summary). AgreeWith told c.finish.new.self.state) (c.as_slice.ensures.value ∙ sym c.as_slice-2.ensures.value)
    c.finish.ensures.finished.agree

pub returns-clause-stands : goal.returns-clause-stands
returns-clause-stands c =
    finished_stands c.args.net.now c.args.reduced.now c.as_slice-2.result.now c.finish-2.new.self c.requires.valid c.requires.reduced
    c.know_reduced.ensures (c.as_slice-2.ensures.value ∙ c.in_ok-summaries.ensures.summaries)
    (c.finish-2.ensures.finished.face ∙ c.finish.ensures.finished.face ∙ c.in_ok-shared.ensures.face ∙ c.in_ok-of.ensures.whole)
    c.journal-journal.ensures.replays c.finish-2.ensures.finished.agree

pub returns-clause-published : goal.returns-clause-published
returns-clause-published c =
    parts_published c.args.reduced.now c.as_slice-2.result.now c.finish-2.new.self.state
    (c.as_slice-2.ensures.value ∙ c.in_ok-summaries.ensures.summaries) c.finish-2.ensures.finished.agree

pub returns-clause-ordered : goal.returns-clause-ordered
returns-clause-ordered c =
    let same : c.as_slice.result.now ≡ c.as_slice-2.result.now = c.as_slice.ensures.value ∙ sym c.as_slice-2.ensures.value in
    order_stays c.as_slice-2.result.now c.in_ok-shared.shared c.finish.new.self c.finish-2.new.self
    (subst (λ (told : List Summary). IsFinished told Order c.in_ok-shared.shared c.finish.new.self) same c.finish.ensures.finished)
    c.finish-2.ensures.finished
    (not_stopped (is_some c.finish.new.self.state.stop)
    (ap (λ (o : Option SharedCycle). is_some o) (sym c.cycle.ensures.value) ∙ sym c.is_some.ensures ∙ c.if-is_some.false) c.in_ok-finish.ensures.done)

pub returns-clause-visited : goal.returns-clause-visited
returns-clause-visited c =
    let same : c.as_slice.result.now ≡ c.as_slice-2.result.now = c.as_slice.ensures.value ∙ sym c.as_slice-2.ensures.value in
    not_stopped (is_some c.finish-2.new.self.state.stop)
    (stop_stays c.as_slice-2.result.now c.in_ok-shared.shared c.finish.new.self c.finish-2.new.self
    (subst (λ (told : List Summary). IsFinished told Order c.in_ok-shared.shared c.finish.new.self) same c.finish.ensures.finished)
    c.finish-2.ensures.finished
    (ap (λ (o : Option SharedCycle). is_some o) (sym c.cycle.ensures.value) ∙ sym c.is_some.ensures ∙ c.if-is_some.false))
    c.in_ok-finish-2.ensures.done

pub returns-clause-untimed : goal.returns-clause-untimed
returns-clause-untimed c =
    let same : c.as_slice.result.now ≡ c.as_slice-2.result.now = c.as_slice.ensures.value ∙ sym c.as_slice-2.ensures.value in
    untimed c.as_slice-2.result.now c.in_ok-shared.shared c.finish.new.self c.finish-2.new.self
    (subst (λ (told : List Summary). IsFinished told Order c.in_ok-shared.shared c.finish.new.self) same c.finish.ensures.finished)
    c.finish-2.ensures.finished c.in_ok-shared.ensures.state
