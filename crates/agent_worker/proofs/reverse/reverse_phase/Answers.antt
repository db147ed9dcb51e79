use Rattle.std.proofs.Common.{List, ap, sym, ◌∙◌, subst}
use Rattle.shared_graph.specs.declared.events.Phase.TheVariants.{Reverse}
use Rattle.shared_graph.specs.Histories.{SharedView, AreFitting}
use Rattle.shared_graph.specs.Interfaces.{InterfaceView, Summary}
use Rattle.shared_graph.specs.Journals.{AgreeWith, IsFinished}
use Rattle.agent_worker.proofs.Phases.{swept, ended, goes_from, still_done, none_stops, all_revisited}
use Rattle.agent_worker.proofs.reverse.reverse_phase.Goals as goal

pub finish-requires-clause-ready : goal.finish-requires-clause-ready
finish-requires-clause-ready g c =
    let v = c.args.shared in
    let w = c.chosen-taken.result in
    let items = c.in_ok-summaries.summaries.items in
    let on = goes_from c.as_slice.result.now items Reverse v c.in_ok-kept.kept w c.as_slice.ensures.value c.in_ok-kept.ensures c.chosen-taken.ensures in
    let sweep = swept items v w on c.in_ok-summaries.ensures.agree c.journal-before.ensures.replays c.journal-begun.ensures.replays in
    still_done v w sweep c.requires

pub finish-requires-clause-fitting : goal.finish-requires-clause-fitting
finish-requires-clause-fitting g c =
    let face = c.chosen-taken.ensures.face ∙ ap (λ (u : SharedView). u.face) c.in_ok-kept.ensures in
    subst (λ (f : InterfaceView). AreFitting f c.as_slice-2.result.now) (sym face)
    (subst (λ (ss : List Summary). AreFitting c.args.shared.face ss) (sym c.as_slice-2.ensures.value) c.in_ok-summaries.ensures.fitting)

pub finish-requires-clause-agree : goal.finish-requires-clause-agree
finish-requires-clause-agree g c =
    subst (λ (ss : List Summary). AgreeWith ss c.chosen-taken.result.state) (c.as_slice.ensures.value ∙ sym c.as_slice-2.ensures.value)
    c.chosen-taken.ensures.agree

pub returns-clause-swept : goal.returns-clause-swept
returns-clause-swept g c =
    let v = c.args.shared in
    let w = c.chosen-taken.result in
    let items = c.in_ok-summaries.summaries.items in
    let on = goes_from c.as_slice.result.now items Reverse v c.in_ok-kept.kept w c.as_slice.ensures.value c.in_ok-kept.ensures c.chosen-taken.ensures in
    let end = subst (λ (ss : List Summary). IsFinished ss Reverse w c.finish.new.self) c.as_slice-2.ensures.value c.finish.ensures.finished in
    swept items v c.finish.new.self (ended items Reverse v w c.finish.new.self on end) c.in_ok-summaries.ensures.agree c.journal-before.ensures.replays
    c.journal-ended.ensures.replays

pub returns-clause-done : goal.returns-clause-done
returns-clause-done g c =
    let v = c.args.shared in
    let w = c.chosen-taken.result in
    let u = c.finish.new.self in
    let items = c.in_ok-summaries.summaries.items in
    let on = goes_from c.as_slice.result.now items Reverse v c.in_ok-kept.kept w c.as_slice.ensures.value c.in_ok-kept.ensures c.chosen-taken.ensures in
    let end = subst (λ (ss : List Summary). IsFinished ss Reverse w u) c.as_slice-2.ensures.value c.finish.ensures.finished in
    let sweep = swept items v u (ended items Reverse v w u on end) c.in_ok-summaries.ensures.agree c.journal-before.ensures.replays
    c.journal-ended.ensures.replays in
    all_revisited u (none_stops u c.journal-ended.ensures.replays (still_done v u sweep c.requires)) c.in_ok-finish.ensures.done

pub chosen-taken-requires-clause-agree : goal.chosen-taken-requires-clause-agree
chosen-taken-requires-clause-agree g c =
    subst (λ (ss : List Summary). AgreeWith ss c.in_ok-kept.kept.state) (sym c.as_slice.ensures.value)
    (subst (λ (v : SharedView). AgreeWith c.in_ok-summaries.summaries.items v.state) (sym c.in_ok-kept.ensures) c.in_ok-summaries.ensures.agree)
