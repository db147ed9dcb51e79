-- Graphs that go on by the steps of a phase: least_of_phase, ended, each_step, swept, goes_from, still_done, none_stops, all_revisited;
-- and their journals: back_of.
use Rattle.std.proofs.Common.{◌≡◌, ℕ, List, [], ◌∷◌, ◌++◌, true, ◌&&◌, length, ◌<◌, Option, Some, None, ap, sym, ◌∙◌, refl, subst}
use Rattle.std.proofs.Common.{◌⊎◌, inl, inr, append_assoc}
use Rattle.std.specs.Prelude.{drop, is_some}
use Rattle.std.specs.List.{AllByRecursion, list_all}
use Rattle.std.proofs.lemmas.Bool.{and_parts, false≢true}
use Rattle.stn_walk.specs.Eliminations.{is_in}
use Rattle.shared_graph.specs.declared.events.Entry.{Entry}
use Rattle.shared_graph.specs.declared.events.Phase.{Phase}
use Rattle.shared_graph.specs.declared.events.Phase.TheVariants.{Order, Reverse}
use Rattle.shared_graph.specs.declared.events.SharedCycle.{SharedCycle}
use Rattle.shared_graph.specs.Histories.{SharedView, IsJournal}
use Rattle.shared_graph.specs.Interfaces.{InterfaceView, Summary, is_listed}
use Rattle.shared_graph.specs.Journals.{AgreeWith, AreLeastSteps, IsDone, IsFinished, IsPrefix, is_step_of}
use Rattle.shared_graph.specs.Replays.{after, replay}
use Rattle.shared_graph.specs.States.{State, Published, published_in}
use Rattle.shared_graph.proofs.graphs.Histories.{journal_sound}
use Rattle.shared_graph.proofs.graphs.Onward.{goes_on, revisits_keep, still_stands}
use Rattle.agent_worker.specs.Phases.{GoesOn, IsSwept}

-- the joiner's steps are of the phase
pub least_of_phase : (face : InterfaceView) (summaries : List Summary) (phase : Phase) (es : List Entry) (s t : State)
    → AreLeastSteps face summaries phase s es t → list_all (λ e. is_step_of phase e.event) es ≡ true
least_of_phase face summaries phase [] s t h = refl
least_of_phase face summaries phase (e ∷ es) s t h =
    ap (λ b. b && list_all (λ f. is_step_of phase f.event) es) h.0.step ∙ least_of_phase face summaries phase es (after face summaries s e.event) t h.1

all-append : (phase : Phase) (es fs : List Entry) → list_all (λ e. is_step_of phase e.event) es ≡ true
    → list_all (λ e. is_step_of phase e.event) fs ≡ true → list_all (λ e. is_step_of phase e.event) (es ++ fs) ≡ true
all-append phase [] fs h g = g
all-append phase (e ∷ es) fs h g =
    let both = and_parts (is_step_of phase e.event) (list_all (λ f. is_step_of phase f.event) es) h in
    ap (λ b. b && list_all (λ f. is_step_of phase f.event) (es ++ fs)) both.0 ∙ all-append phase es fs both.1 g

each_step : (phase : Phase) (es : List Entry) → list_all (λ e. is_step_of phase e.event) es ≡ true
    → AllByRecursion (λ e. is_step_of phase e.event ≡ true) es
each_step phase [] h = tt
each_step phase (e ∷ es) h =
    let both = and_parts (is_step_of phase e.event) (list_all (λ f. is_step_of phase f.event) es) h in
    (both.0, each_step phase es both.1)

-- the workers' steps and then the joiner's
pub ended : (summaries : List Summary) (phase : Phase) (u v w : SharedView) → GoesOn summaries phase u v → IsFinished summaries phase v w
    → GoesOn summaries phase u w
ended summaries phase u v w on end = record {
  face = end.face ∙ on.face;
  agree = end.agree;
  steps = on.steps ++ end.steps;
  journal = end.journal ∙ ap (λ es. es ++ end.steps) on.journal ∙ append_assoc u.journal on.steps end.steps;
  of_phase = all-append phase on.steps end.steps on.of_phase (least_of_phase v.face summaries phase end.steps v.state w.state end.least);
}

-- what comes behind a prefix
behind : (front back : List Entry) → drop (length front) (front ++ back) ≡ back
behind [] back = refl
behind (x ∷ xs) back = behind xs back

pub back_of : (front all : List Entry) → IsPrefix front all → all ≡ front ++ drop (length front) all
back_of front all (back, is) = is ∙ ap (λ ys. front ++ ys) (sym (behind front back) ∙ ap (drop (length front)) (sym is))

-- what a graph that goes on by revisits keeps
pub swept : (summaries : List Summary) (v w : SharedView) → GoesOn summaries Reverse v w → AgreeWith summaries v.state
    → IsJournal v.face v.state v.journal → IsJournal w.face w.state w.journal → IsSwept Reverse v w
swept summaries v w on agree j k =
    record {
      face = on.face;
      published = keep.0;
      order = keep.1;
      steps = on.steps;
      journal = on.journal;
      of_phase = on.of_phase;
      stands = still_stands v w summaries on.steps on.face on.journal replays agree all;
    } where
      all : AllByRecursion (λ e. is_step_of Reverse e.event ≡ true) on.steps
      all = each_step Reverse on.steps on.of_phase

      k_there : IsJournal v.face w.state (v.journal ++ on.steps)
      k_there = subst (λ f. IsJournal f w.state (v.journal ++ on.steps)) on.face (subst (IsJournal w.face w.state) on.journal k)

      replays : replay v.face summaries v.state on.steps ≡ Some w.state
      replays = goes_on v.face summaries v.state w.state v.journal on.steps j agree k_there on.agree

      keep : (w.state.published ≡ v.state.published) × (w.state.order ≡ v.state.order)
      keep = revisits_keep v.face summaries on.steps v.state w.state replays all

-- a graph that goes on from an equal one, with equal summaries
pub goes_from : (listed others : List Summary) (phase : Phase) (v kept w : SharedView) → listed ≡ others → kept ≡ v → GoesOn listed phase kept w
    → GoesOn others phase v w
goes_from listed others phase v kept w same is on = subst (λ u. GoesOn others phase u w) is (subst (λ ss. GoesOn ss phase kept w) same on)

-- what the phase of order leaves stays done
pub still_done : (v w : SharedView) → IsSwept Reverse v w → IsDone v.face v.state Order → IsDone w.face w.state Order
still_done v w sweep done = (
  λ a low.
      subst (λ (ps : List Published). published_in ps a ≡ true) (sym sweep.published)
      (done.0 a (subst (λ (f : InterfaceView). a < length f.leans) sweep.face low)),
  λ p listed.
      subst (λ (es : List ℕ). is_in es p ≡ true) (sym sweep.order) (done.1 p (subst (λ (f : InterfaceView). is_listed f p ≡ true) sweep.face listed)),
)

-- and then there is no stop
pub none_stops : (v : SharedView) → IsJournal v.face v.state v.journal → IsDone v.face v.state Order → v.state.stop ≡ None
none_stops v j done = go v.state.stop refl where
  go : (o : Option SharedCycle) → v.state.stop ≡ o → v.state.stop ≡ None
  go None is = is
  go (Some t) is =
      (let stop = (journal_sound v.face v.state v.journal j).stops t is in
      absurd (false≢true (sym stop.outside ∙ done.1 t.point.0 (ap (λ o. is_some o) stop.owned.1))))

-- so all is revisited
pub all_revisited : {D : Type 0} (v : SharedView) → v.state.stop ≡ None → (is_some v.state.stop ≡ true) ⊎ D → D
all_revisited v none (inl some) = absurd (false≢true (sym (ap (λ o. is_some o) none) ∙ some))
all_revisited v none (inr done) = done
