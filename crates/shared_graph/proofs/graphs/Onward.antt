-- Journals that go on from one another: replay-append, replays_alike, agree_alike, goes_on, stands_for; and with steps of the phase of revisits:
-- revisits_keep, still_stands.
use Rattle.std.proofs.Common.{◌≡◌, ℕ, List, [], ◌∷◌, ◌++◌, true, ◌||◌, Some, None, ap, sym, ◌∙◌, refl}
use Rattle.std.proofs.Common.{subst}
use Rattle.std.specs.Prelude.{◌==◌, if◌then◌else◌, is_some}
use Rattle.std.specs.List.{AllByRecursion}
use Rattle.std.proofs.Math.Bool.{or-true}
use Rattle.std.proofs.lemmas.Bool.{eq-eqb}
use Rattle.shared_graph.specs.declared.events.Entry.{Entry}
use Rattle.shared_graph.specs.declared.events.Event.{Event}
use Rattle.shared_graph.specs.declared.events.Event.TheVariants.{Publish, Eliminate, Stop, Revisit, Assign, Widen}
use Rattle.shared_graph.specs.declared.events.Phase.TheVariants.{Reverse}
use Rattle.stn_model.specs.Net.{Net}
use Rattle.stn_model.specs.Valid.{IsNetwork}
use Rattle.shared_graph.specs.Histories.{SharedView, IsJournal}
use Rattle.shared_graph.specs.Interfaces.{InterfaceView, Summary, interface_of}
use Rattle.shared_graph.specs.Journals.{AgreeWith, StandsFor, is_step_of}
use Rattle.shared_graph.specs.Publications.{entries_in}
use Rattle.shared_graph.specs.Refusals.{refusal}
use Rattle.shared_graph.specs.Replays.{summary_of, AreRight, after, replay}
use Rattle.shared_graph.specs.States.{State, Published, published_in, is_published, start}
use Rattle.shared_graph.proofs.graphs.TellOnce.{listed_entries, published_listed}
use Rattle.shared_graph.proofs.states.Listed.{listed_replay, start_listed}

-- the replay of one list and then of another
pub replay-append : (face : InterfaceView) (summaries : List Summary) (es fs : List Entry) (s t : State) → replay face summaries s es ≡ Some t
    → replay face summaries s (es ++ fs) ≡ replay face summaries t fs
replay-append face summaries [] fs s t h = (let e : s ≡ t = cc in ap (λ u. replay face summaries u fs) e)
replay-append face summaries (x ∷ es) fs s t h =
    elim (refusal face s x) as (λ o. (if is_some o then None else replay face summaries (after face summaries s x.event) es) ≡ Some t
    → (if is_some o then None else replay face summaries (after face summaries s x.event) (es ++ fs)) ≡ replay face summaries t fs) [
      | None ↦ λ g. replay-append face summaries es fs (after face summaries s x.event) t g
      | Some c ↦ λ g. absurd (cc)
    ] h

module _ (face : InterfaceView) (summaries others : List Summary) where
  kept : (event : Event) (s : State) (a : ℕ) → is_published s a ≡ true → is_published (after face summaries s event) a ≡ true
  kept (Publish b) s a h = ap (λ c. c || (a == b.0)) h
  kept (Eliminate k) s a h = h
  kept (Stop k i) s a h = h
  kept (Revisit k) s a h = h
  kept (Assign k v) s a h = h
  kept (Widen k end) s a h = h

  still : (es : List Entry) (s t : State) (a : ℕ) → replay face summaries s es ≡ Some t → is_published s a ≡ true → is_published t a ≡ true
  still [] s t a h there = (let e : s ≡ t = cc in subst (λ (u : State). is_published u a ≡ true) e there)
  still (x ∷ es) s t a h there =
      elim (refusal face s x) as (λ o. (if is_some o then None else replay face summaries (after face summaries s x.event) es) ≡ Some t
      → is_published t a ≡ true) [
        | None ↦ λ g. still es (after face summaries s x.event) t a g (kept x.event s a there)
        | Some c ↦ λ g. absurd (cc)
      ] h

  -- what an entry does with other summaries that are the same for what it publishes
  after_alike : (event : Event) (s : State) → ((a : ℕ) → is_published (after face summaries s event) a ≡ true → summary_of others a ≡ summary_of summaries a)
      → after face others s event ≡ after face summaries s event
  after_alike (Publish a) s same =
      let here : is_published (after face summaries s (Publish a)) a.0 ≡ true =
      ap (λ b. published_in s.published a.0 || b) (eq-eqb a.0 a.0 refl) ∙ or-true (published_in s.published a.0) in
      ap (λ entries. record s { published = record { agent = a.0; entries = entries } ∷ s.published }) (same a.0 here)
  after_alike (Eliminate k) s same = refl
  after_alike (Stop k i) s same = refl
  after_alike (Revisit k) s same = refl
  after_alike (Assign k v) s same = refl
  after_alike (Widen k end) s same = refl

  -- entries replay alike with other summaries that are the same for all that have published in the end
  pub replays_alike : (es : List Entry) (s t : State) → replay face summaries s es ≡ Some t
      → ((a : ℕ) → is_published t a ≡ true → summary_of others a ≡ summary_of summaries a) → replay face others s es ≡ Some t
  replays_alike [] s t h same = h
  replays_alike (x ∷ es) s t h same =
      elim (refusal face s x) as (λ o. (if is_some o then None else replay face summaries (after face summaries s x.event) es) ≡ Some t
      → (if is_some o then None else replay face others (after face others s x.event) es) ≡ Some t) [
        | None ↦ λ g.
            (let next = after face summaries s x.event in
            let alike : after face others s x.event ≡ next = after_alike x.event s (λ a there. same a (still es next t a g there)) in
            ap (λ u. replay face others u es) alike ∙ replays_alike es next t g same)
        | Some c ↦ λ g. absurd (cc)
      ] h

-- a journal replays with all summaries that are the published ones of those that have published
pub agree_alike : (face : InterfaceView) (s : State) (journal : List Entry) (summaries : List Summary) → IsJournal face s journal
    → AgreeWith summaries s → replay face summaries start journal ≡ Some s
agree_alike face s journal summaries j agree =
    replays_alike face j.summaries summaries journal start s j.replays
    (λ a there. sym (agree a there) ∙ published_listed face s journal j a there)

-- one that goes on replays from where the other one ended
pub goes_on : (face : InterfaceView) (summaries : List Summary) (s t : State) (front es : List Entry) → IsJournal face s front → AgreeWith summaries s
    → IsJournal face t (front ++ es) → AgreeWith summaries t → replay face summaries s es ≡ Some t
goes_on face summaries s t front es j agree k agrees =
    sym (replay-append face summaries front es start s (agree_alike face s front summaries j agree)) ∙ agree_alike face t (front ++ es) summaries k agrees

-- over a network and right summaries a graph stands for the network
pub stands_for : (net : Net) (v : SharedView) (summaries : List Summary) → IsNetwork net → v.face ≡ interface_of net → AreRight net summaries
    → IsJournal v.face v.state v.journal → AgreeWith summaries v.state → StandsFor net v
stands_for net v summaries valid face right j agree =
    record {
      network = valid;
      face = face;
      summaries = summaries;
      right = right;
      replays = subst (λ f. replay f summaries start v.journal ≡ Some v.state) face (agree_alike v.face v.state v.journal summaries j agree);
    }

-- what a step of the phase of revisits leaves
step_published : (face : InterfaceView) (summaries : List Summary) (event : Event) (s : State) → is_step_of Reverse event ≡ true
    → ((after face summaries s event).published ≡ s.published) × ((after face summaries s event).order ≡ s.order)
step_published face summaries (Publish a) s h = absurd (cc)
step_published face summaries (Eliminate k) s h = absurd (cc)
step_published face summaries (Stop k i) s h = absurd (cc)
step_published face summaries (Revisit k) s h = (refl, refl)
step_published face summaries (Assign k v) s h = absurd (cc)
step_published face summaries (Widen k end) s h = absurd (cc)

pub revisits_keep : (face : InterfaceView) (summaries : List Summary) (es : List Entry) (s t : State) → replay face summaries s es ≡ Some t
    → AllByRecursion (λ e. is_step_of Reverse e.event ≡ true) es → (t.published ≡ s.published) × (t.order ≡ s.order)
revisits_keep face summaries [] s t h all = (let e : t ≡ s = cc in (ap (λ (u : State). u.published) e, ap (λ (u : State). u.order) e))
revisits_keep face summaries (x ∷ es) s t h all =
    elim (refusal face s x) as (λ o. (if is_some o then None else replay face summaries (after face summaries s x.event) es) ≡ Some t
    → (t.published ≡ s.published) × (t.order ≡ s.order)) [
      | None ↦ λ g.
          (let rest = revisits_keep face summaries es (after face summaries s x.event) t g all.1 in
          let one = step_published face summaries x.event s all.0 in
          (rest.0 ∙ one.0, rest.1 ∙ one.1))
      | Some c ↦ λ g. absurd (cc)
    ] h

-- a graph that goes on by such steps stands for each network for which it stood
pub still_stands : (v w : SharedView) (summaries : List Summary) (es : List Entry) → w.face ≡ v.face → w.journal ≡ v.journal ++ es
    → replay v.face summaries v.state es ≡ Some w.state → AgreeWith summaries v.state → AllByRecursion (λ e. is_step_of Reverse e.event ≡ true) es
    → (net : Net) → StandsFor net v → StandsFor net w
still_stands v w summaries es face journal replays agree all net stands =
    record {
      network = stands.network;
      face = face ∙ stands.face;
      summaries = stands.summaries;
      right = stands.right;
      replays =
          ap (replay (interface_of net) stands.summaries start) journal
          ∙ replay-append (interface_of net) stands.summaries v.journal es start v.state stands.replays ∙ on;
    } where
      here : replay (interface_of net) summaries v.state es ≡ Some w.state
      here = subst (λ f. replay f summaries v.state es ≡ Some w.state) stands.face replays

      listed : (a : ℕ) → is_published v.state a ≡ true → entries_in v.state.published a ≡ summary_of stands.summaries a
      listed a there =
          listed_entries (interface_of net) stands.summaries v.state.published
          (listed_replay (interface_of net) stands.summaries v.journal start v.state (start_listed (interface_of net) stands.summaries) stands.replays)
          a there

      kept_published : w.state.published ≡ v.state.published
      kept_published = (revisits_keep (interface_of net) summaries es v.state w.state here all).0

      before : (a : ℕ) → is_published w.state a ≡ true → is_published v.state a ≡ true
      before a there = subst (λ (ps : List Published). published_in ps a ≡ true) kept_published there

      on : replay (interface_of net) stands.summaries v.state es ≡ Some w.state
      on =
          replays_alike (interface_of net) summaries stands.summaries es v.state w.state here
          (λ a there. sym (listed a (before a there)) ∙ agree a (before a there))
