use Rattle.std.proofs.Common.{◌≡◌, ◌<◌, ◌∷◌, ap, sym, ◌∙◌, arith, subst}
use Rattle.shared_graph.specs.declared.events.By.TheVariants.{Joiner}
use Rattle.shared_graph.specs.declared.events.Event.TheVariants.{Revisit}
use Rattle.shared_graph.specs.declared.events.Phase.TheVariants.{Order, Reverse}
use Rattle.shared_graph.specs.Histories.{IsJournal, unvisited_in}
use Rattle.shared_graph.specs.Journals.{IsDone}
use Rattle.shared_graph.specs.States.{State}
use Rattle.shared_graph.proofs.graphs.Finishing.{agree_same, finished_nothing, finished_one, finished_join}
use Rattle.shared_graph.proofs.graphs.Histories.{journal_sound, revisit_tests, unvisited_less}
use Rattle.shared_graph.proofs.graphs.Relaying.{least_of_all, all_revisited}
use Rattle.shared_graph.proofs.shared.Shared.revisit_all.Goals as goal

pub loop-point-init : goal.loop-point-init
loop-point-init g c = record {
  finished = λ summaries agree. finished_nothing summaries Reverse c.args.self.now agree;
  going = c.requires.going;
  done = c.requires.ready;
}

pub revisit-requires : goal.revisit-requires
revisit-requires g c = c.in-Some.ensures.some.legal Joiner

pub loop-point-smaller : goal.loop-point-smaller
loop-point-smaller g c =
    let v = c.loop-point.self in
    let w = c.revisit.new.self in
    let k = c.in-Some.point.0 in
    let tests = revisit_tests v.face v.state Joiner k (c.in-Some.ensures.some.legal Joiner) in
    let less = unvisited_less v.face v.state k tests.0 tests.1 in
    let same : unvisited_in w.face w.state ≡ unvisited_in v.face (record v.state { revisited = k ∷ v.state.revisited }) =
    λ i. unvisited_in (c.revisit.ensures.face i) (c.revisit.ensures.state i) in
    let falls : unvisited_in w.face w.state < unvisited_in v.face v.state = omega arith in
    falls

pub loop-point-preserved : goal.loop-point-preserved
loop-point-preserved g c =
    let v = c.loop-point.self in
    let w = c.revisit.new.self in
    let h = c.loop-point.invariant in
    let k = c.in-Some.point in
    let state = c.revisit.ensures.state in
    let least = least_of_all v.face v.state k c.in-Some.ensures.some in
    record {
      finished = λ summaries agree.
          finished_join summaries Reverse c.args.self.now v w (h.finished summaries agree)
          (finished_one summaries Reverse v w (record { by = Joiner; event = Revisit k }) least c.revisit.ensures.face state c.revisit.ensures.journal
          (agree_same summaries v.state w.state (ap (λ (t : State). t.published) state) (h.finished summaries agree).agree));
      going = ap (λ (t : State). t.stop) state ∙ h.going;
      done =
          subst (λ (t : State). IsDone w.face t Order) (sym state)
          (subst (λ f. IsDone f (record v.state { revisited = k.0 ∷ v.state.revisited }) Order) (sym c.revisit.ensures.face) h.done);
    }

pub returns-clause-finished : goal.returns-clause-finished
returns-clause-finished g c = c.loop-point.invariant.finished

pub returns-clause-done : goal.returns-clause-done
returns-clause-done g c =
    let v = c.loop-point.self in
    let h = c.loop-point.invariant in
    let j : IsJournal v.face v.state v.journal = c.journal-journal.ensures.replays in
    all_revisited v.face j.interface v.state (journal_sound v.face v.state v.journal j) h.going h.done.0 h.done.1 c.in_default.ensures.none
