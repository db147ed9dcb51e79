-- Journals that grow, and what they say of networks: replay-push, entered, published_entered, started, copied, same_view, journal_sound, published_below,
-- grown; the tests of steps:
-- revisit_tests, may_clear, may_stop, taken_order, taken_same; unvisited_less, unvisited_most; stops_exclude, told_fits, finals_are_least, verdict.
use Rattle.std.proofs.Common.{zero, suc, ◌≡◌, ◌≢◌, ℕ, ◌+◌, ◌<◌, ◌≤◌, List, [], ◌∷◌, ◌++◌, Bool, true, false, ◌||◌, not, Option, Some, None, ap, sym}
use Rattle.std.proofs.Common.{◌∙◌, refl, arith, inl, inr, length, subst, set, replicate}
use Rattle.std.specs.Prelude.{ℤ, ◌==◌, if◌then◌else◌, is_some, filter, Contains, IfSome, MatchOption}
use Rattle.std.specs.Option.{option_map}
use Rattle.std.proofs.Math.Bool.{or-true}
use Rattle.std.proofs.lemmas.Bool.{cases_eq, or_cases, false≢true, eq-eqb, ne_eqb}
use Rattle.std.proofs.lemmas.Bool.Decides.{nat_tests}
use Rattle.std.proofs.lemmas.List.{get_or-set_same, get_or-set_other, length-set, length-replicate, length-append}
use Rattle.stn_model.specs.declared.ids.PointId.{PointId}
use Rattle.stn_model.specs.Net.{Net, arcs_of, point_count}
use Rattle.stn_model.specs.Valid.{IsNetwork}
use Rattle.stn_model.specs.Schedules.{IsConsistent, IsLeastBound}
use Rattle.stn_walk.specs.Eliminations.{is_in}
use Rattle.elim_step.specs.declared.summary.SummaryEntry.{SummaryEntry}
use Rattle.shared_graph.specs.declared.events.By.{By}
use Rattle.shared_graph.specs.declared.events.Entry.{Entry}
use Rattle.shared_graph.specs.declared.events.Event.{Event}
use Rattle.shared_graph.specs.declared.events.Event.TheVariants.{Publish, Eliminate, Stop, Revisit, Assign, Widen}
use Rattle.shared_graph.specs.declared.events.Illegal.TheVariants.{NotShared, AlreadyDone}
use Rattle.shared_graph.specs.declared.events.SharedCycle.{SharedCycle}
use Rattle.shared_graph.specs.Graphs.{GraphView}
use Rattle.shared_graph.specs.Histories.{SharedView, IsJournal, unvisited_in}
use Rattle.shared_graph.specs.Interfaces.{InterfaceView, Summary, IsInterface, IsFitting, interface_of, points_of, is_listed}
use Rattle.shared_graph.specs.Journals.{StandsFor, OfStanding, IsVerdictOn}
use Rattle.shared_graph.specs.Publications.{entries_in}
use Rattle.shared_graph.specs.Refusals.{not_published, order_open, first_below, refusal}
use Rattle.shared_graph.specs.Replays.{summary_of, AreRight, after, replay}
use Rattle.shared_graph.specs.States.{State, Published, agent_id, point_id, published_in, is_published, start}
use Rattle.shared_graph.specs.Together.{IsAllPublished, IsWhole}
use Rattle.shared_graph.specs.Takes.{MayEliminate}
use Rattle.shared_graph.specs.Weights.{first_passing, least_negative, final}
use Rattle.shared_graph.proofs.graphs.Throughs.{final_there}
use Rattle.shared_graph.proofs.networks.Verdicts.{stop_shows, whole_shows, finals_bound}
use Rattle.shared_graph.proofs.states.Keeps.{IsSound, start_sound, replay_sound}
use Rattle.shared_graph.proofs.states.Listed.{AreListed, start_listed, listed_replay}
use Rattle.shared_graph.proofs.states.Passing.{if_none, or_none, not_false, no_stop, publish_passes, eliminate_passes, stop_passes, listed_in}
use Rattle.shared_graph.proofs.states.Stops.{negative_stops}

-- one legal entry more
pub replay-push : (face : InterfaceView) (summaries : List Summary) (es : List Entry) (s t : State) (e : Entry) → replay face summaries s es ≡ Some t
    → refusal face t e ≡ None → replay face summaries s (es ++ e ∷ []) ≡ Some (after face summaries t e.event)
replay-push face summaries [] s t e h legal =
    let same : s ≡ t = cc in
    let here : refusal face s e ≡ None = ap (λ u. refusal face u e) same ∙ legal in
    (λ i. if is_some (here i) then None else Some (after face summaries s e.event)) ∙ ap (λ u. Some (after face summaries u e.event)) same
replay-push face summaries (x ∷ es) s t e h legal =
    elim (refusal face s x) as (λ o. (if is_some o then None else replay face summaries (after face summaries s x.event) es) ≡ Some t
    → (if is_some o then None else replay face summaries (after face summaries s x.event) (es ++ e ∷ [])) ≡ Some (after face summaries t e.event)) [
      | None ↦ λ g. replay-push face summaries es (after face summaries s x.event) t e g legal
      | Some c ↦ λ g. absurd (cc)
    ] h

-- the summary of an agent that has not published does not matter
module _ (face : InterfaceView) (summaries others : List Summary) (agent : ℕ)
    (same : (a : ℕ) → a ≢ agent → summary_of others a ≡ summary_of summaries a) where
  kept_published : (event : Event) (s : State) → is_published s agent ≡ true → is_published (after face summaries s event) agent ≡ true
  kept_published (Publish a) s h = ap (λ b. b || (agent == a.0)) h
  kept_published (Eliminate k) s h = h
  kept_published (Stop k i) s h = h
  kept_published (Revisit k) s h = h
  kept_published (Assign k v) s h = h
  kept_published (Widen k end) s h = h

  still_published : (es : List Entry) (s t : State) → replay face summaries s es ≡ Some t → is_published s agent ≡ true → is_published t agent ≡ true
  still_published [] s t h there = (let e : s ≡ t = cc in subst (λ (u : State). is_published u agent ≡ true) e there)
  still_published (x ∷ es) s t h there =
      elim (refusal face s x) as (λ o. (if is_some o then None else replay face summaries (after face summaries s x.event) es) ≡ Some t
      → is_published t agent ≡ true) [
        | None ↦ λ g. still_published es (after face summaries s x.event) t g (kept_published x.event s there)
        | Some c ↦ λ g. absurd (cc)
      ] h

  after_same : (event : Event) (s : State) → is_published (after face summaries s event) agent ≡ false
      → after face others s event ≡ after face summaries s event
  after_same (Publish a) s h = elim (cases_eq a.0 agent) [
    | inl e ↦ absurd (false≢true (sym h ∙ ap (λ b. published_in s.published agent || b) (eq-eqb agent a.0 (sym e)) ∙ or-true (published_in s.published agent)))
    | inr apart ↦ ap (λ entries. record s { published = record { agent = a.0; entries = entries } ∷ s.published }) (same a.0 apart)
  ]
  after_same (Eliminate k) s h = refl
  after_same (Stop k i) s h = refl
  after_same (Revisit k) s h = refl
  after_same (Assign k v) s h = refl
  after_same (Widen k end) s h = refl

  pub replay_same : (es : List Entry) (s t : State) → replay face summaries s es ≡ Some t → is_published t agent ≡ false → replay face others s es ≡ Some t
  replay_same [] s t h fresh = h
  replay_same (x ∷ es) s t h fresh =
      elim (refusal face s x) as (λ o. (if is_some o then None else replay face summaries (after face summaries s x.event) es) ≡ Some t
      → (if is_some o then None else replay face others (after face others s x.event) es) ≡ Some t) [
        | None ↦ λ g.
            (let early : is_published (after face summaries s x.event) agent ≡ false = not_yet (is_published (after face summaries s x.event) agent) refl g in
            ap (λ u. replay face others u es) (after_same x.event s early) ∙ replay_same es (after face summaries s x.event) t g fresh)
        | Some c ↦ λ g. absurd (cc)
      ] h where
        not_yet : (b : Bool) → is_published (after face summaries s x.event) agent ≡ b
            → replay face summaries (after face summaries s x.event) es ≡ Some t → b ≡ false
        not_yet true is g = absurd (false≢true (sym fresh ∙ still_published es (after face summaries s x.event) t g is))
        not_yet false is g = refl

module _ (face : InterfaceView) (s : State) (journal : List Entry) (j : IsJournal face s journal) where
  -- a legal entry is entered
  pub entered : (e : Entry) → refusal face s e ≡ None → IsJournal face (after face j.summaries s e.event) (journal ++ e ∷ [])
  entered e legal = record {
    interface = j.interface;
    summaries = j.summaries;
    one_each = j.one_each;
    fitting = j.fitting;
    replays = replay-push face j.summaries journal start s e j.replays legal;
  }

  -- and so is what an agent publishes
  pub published_entered : (by : By) (a : ℕ) (entries : Summary) → refusal face s (record { by = by; event = Publish (agent_id a) }) ≡ None
      → IsFitting face a entries
      → IsJournal face (record s { published = record { agent = a; entries = entries } ∷ s.published })
      (journal ++ record { by = by; event = Publish (agent_id a) } ∷ [])
  published_entered by a entries legal fits =
      let passes = publish_passes face s by a (no_stop face s (record { by = by; event = Publish (agent_id a) }) legal).1 in
      let low : a < length j.summaries = (let len = j.one_each in let lt = passes.0 in omega arith) in
      let here : summary_of (set j.summaries a entries) a ≡ entries = get_or-set_same j.summaries a entries [] low in
      let apart : (b : ℕ) → b ≢ a → summary_of (set j.summaries a entries) b ≡ summary_of j.summaries b =
      λ b other. get_or-set_other j.summaries a b entries [] other in
      let kept = replay_same face j.summaries (set j.summaries a entries) a apart journal start s j.replays passes.1 in
      record {
        interface = j.interface;
        summaries = set j.summaries a entries;
        one_each = length-set j.summaries a entries ∙ j.one_each;
        fitting = λ b. elim (cases_eq b a) [
          | inl same ↦ subst (λ c. IsFitting face c (summary_of (set j.summaries a entries) c)) (sym same) (subst (IsFitting face a) (sym here) fits)
          | inr other ↦ subst (IsFitting face b) (sym (apart b other)) (j.fitting b)
        ];
        replays =
            replay-push face (set j.summaries a entries) journal start s (record { by = by; event = Publish (agent_id a) }) kept legal
            ∙ ap (λ es. Some (record s { published = record { agent = a; entries = es } ∷ s.published })) here;
      }

-- nothing is done
no_summary : (n a : ℕ) → summary_of (replicate n []) a ≡ []
no_summary zero a = refl
no_summary (suc n) zero = refl
no_summary (suc n) (suc a) = no_summary n a

pub start_journal : (face : InterfaceView) → IsInterface face → IsJournal face start []
start_journal face known = record {
  interface = known;
  summaries = replicate (length face.leans) [];
  one_each = length-replicate (length face.leans) [];
  fitting = λ a e there. absurd (nothing e (subst (λ (es : Summary). Contains es e) (no_summary (length face.leans) a) there));
  replays = refl;
} where
  nothing : (e : SummaryEntry) → Contains [] e → ⊥
  nothing e h = (let low : h.0 < 0 = h.1 in absurd (omega arith))

pub started : (face : InterfaceView) (s : State) (journal : List Entry) → IsInterface face → s ≡ start → journal ≡ [] → IsJournal face s journal
started face s journal known state empty =
    subst (λ t. IsJournal face t journal) (sym state) (subst (IsJournal face start) (sym empty) (start_journal face known))

-- the same history, in another place
pub copied : (v : SharedView) (new : GraphView) (journal : List Entry) → new ≡ record { face = v.face; state = v.state } → journal ≡ v.journal
    → IsJournal v.face v.state v.journal → IsJournal new.face new.state journal
copied v new journal graph entries j =
    subst (λ (w : GraphView). IsJournal w.face w.state journal) (sym graph) (subst (IsJournal v.face v.state) (sym entries) j)

pub same_view : (v : SharedView) (new : GraphView) (journal : List Entry) → new ≡ record { face = v.face; state = v.state } → journal ≡ v.journal
    → record { face = new.face; state = new.state; journal = journal } ≡ v
same_view v new journal graph entries = λ i. record { face = (graph i).face; state = (graph i).state; journal = entries i }

-- what holds of a state with a journal
pub journal_sound : (face : InterfaceView) (s : State) (journal : List Entry) → IsJournal face s journal → IsSound face s
journal_sound face s journal j = replay_sound face j.interface j.summaries j.fitting journal start s (start_sound face j.interface) j.replays

-- a published agent is an agent
pub published_below : (face : InterfaceView) (s : State) (journal : List Entry) → IsJournal face s journal → (a : ℕ) → is_published s a ≡ true
    → a < length face.leans
published_below face s journal j a there =
    below s.published (listed_replay face j.summaries journal start s (start_listed face j.summaries) j.replays) there where
      below : (ps : List Published) → AreListed face j.summaries ps → published_in ps a ≡ true → a < length face.leans
      below [] listed h = absurd (cc)
      below (p ∷ ps) listed h = elim (or_cases (published_in ps a) (a == p.agent) h) [
        | inl later ↦ below ps (λ q here. listed q (suc here.0, omega (arith, here.1), here.2)) later
        | inr first ↦ (let e : a ≡ p.agent = grind (arith, nat_tests) in let low = (listed p (0, omega arith, refl)).0 in omega arith)
      ]

-- the journal with one entry more has room for the revisits that are left
pub grown : (face f : InterfaceView) (s t : State) (es fs : List Entry) (e : Entry) (room : ℕ) → f ≡ face → t ≡ s → fs ≡ es ++ e ∷ []
    → IsJournal face s (es ++ e ∷ []) → suc (length es + unvisited_in face s) ≤ room → IsJournal f t fs × (length fs + unvisited_in f t ≤ room)
grown face f s t es fs e room is_face is_state is_journal j fits =
    let len : length fs ≡ length es + 1 = ap length is_journal ∙ length-append es (e ∷ []) in
    let left : unvisited_in f t ≡ unvisited_in face s = λ i. unvisited_in (is_face i) (is_state i) in (
      subst (λ g. IsJournal g t fs) (sym is_face) (subst (λ u. IsJournal face u fs) (sym is_state) (subst (IsJournal face s) (sym is_journal) j)),
      omega arith,
    )

-- the tests of a revisit
pub revisit_tests : (face : InterfaceView) (s : State) (by : By) (k : ℕ) → refusal face s (record { by = by; event = Revisit (point_id k) }) ≡ None
    → (is_listed face k ≡ true) × (is_in s.revisited k ≡ false)
revisit_tests face s by k h =
    let legal = (no_stop face s (record { by = by; event = Revisit (point_id k) }) h).1 in
    let one = if_none (not (is_listed face k)) NotShared _ legal in
    let two = or_none (option_map not_published (first_below (λ a. not (is_published s a)) (length face.leans))) _ one.1 in
    let three = or_none (option_map order_open (first_passing (λ p. not (is_in s.order p)) (points_of face))) _ two.1 in
    let four = if_none (is_in s.revisited k) AlreadyDone _ three.1 in
    (not_false (is_listed face k) one.0, four.0)

-- an elimination that is legal or refused for a negative sum alone is legal where there is none, and else the stop is
pub may_clear : (face : InterfaceView) (s : State) (by : By) (k : PointId) → MayEliminate face s by k → least_negative face s k.0 ≡ None
    → refusal face s (record { by = by; event = Eliminate k }) ≡ None
may_clear face s by k (inl legal) none = legal
may_clear face s by k (inr (i, refused)) none =
    let legal = (negative_stops face s by k.0 i).0 refused in
    let passes = stop_passes face s by k.0 i (no_stop face s (record { by = by; event = Stop k (point_id i) }) legal).1 in
    absurd (let f = sym none ∙ passes.2 in cc)

pub may_stop : (face : InterfaceView) (s : State) (by : By) (k i : PointId) → MayEliminate face s by k → least_negative face s k.0 ≡ Some i.0
    → refusal face s (record { by = by; event = Stop k i }) ≡ None
may_stop face s by k i (inl legal) some =
    let passes = eliminate_passes face s by k.0 (no_stop face s (record { by = by; event = Eliminate k }) legal).1 in
    absurd (let f = sym passes.2 ∙ some in cc)
may_stop face s by k i (inr (j, refused)) some =
    let legal = (negative_stops face s by k.0 j).0 refused in
    let passes = stop_passes face s by k.0 j (no_stop face s (record { by = by; event = Stop k (point_id j) }) legal).1 in
    let same : Some j ≡ Some i.0 = sym passes.2 ∙ some in
    let e : j ≡ i.0 = cc in
    subst (λ q. refusal face s (record { by = by; event = Stop k (point_id q) }) ≡ None) e legal

-- what an elimination answers, where a point is taken and where none is
pub taken_order : (face : InterfaceView) (s : State) (k : PointId) (o : Option PointId) (new : GraphView)
    → MatchOption o (new.state ≡ record s { order = k.0 ∷ s.order }) (λ other. new ≡ record { face = face; state = s }) → o ≡ None
    → new.state ≡ record s { order = k.0 ∷ s.order }
taken_order face s k None new h none = h
taken_order face s k (Some other) new h none = absurd (cc)

pub taken_same : (face : InterfaceView) (s : State) (k : PointId) (o : Option PointId) (new : GraphView) (other : PointId)
    → MatchOption o (new.state ≡ record s { order = k.0 ∷ s.order }) (λ other. new ≡ record { face = face; state = s }) → o ≡ Some other
    → new ≡ record { face = face; state = s }
taken_same face s k None new other h some = absurd (cc)
taken_same face s k (Some p) new other h some = h

-- fewer points pass a stricter test
filter_most : (test more : ℕ → Bool) (xs : List ℕ) → ((p : ℕ) → more p ≡ true → test p ≡ true) → length (filter more xs) ≤ length (filter test xs)
filter_most test more [] up = omega arith
filter_most test more (x ∷ xs) up =
    let rest = filter_most test more xs up in
    elim (more x) as (λ b. more x ≡ b → length (if b then x ∷ filter more xs else filter more xs)
    ≤ length (if test x then x ∷ filter test xs else filter test xs)) [
      | true ↦ λ t. subst (λ b. length (x ∷ filter more xs) ≤ length (if b then x ∷ filter test xs else filter test xs)) (sym (up x t)) (omega arith)
      | false ↦ λ t. elim (test x) as (λ b. length (filter more xs) ≤ length (if b then x ∷ filter test xs else filter test xs)) [
        | true ↦ omega arith
        | false ↦ rest
      ]
    ] refl

filter_less : (test more : ℕ → Bool) (xs : List ℕ) (k : ℕ) → ((p : ℕ) → more p ≡ true → test p ≡ true) → is_in xs k ≡ true → test k ≡ true → more k ≡ false
    → suc (length (filter more xs)) ≤ length (filter test xs)
filter_less test more [] k up there passes fails = absurd (cc)
filter_less test more (x ∷ xs) k up there passes fails = elim (or_cases (is_in xs k) (k == x) there) [
  | inl later ↦ step (filter_less test more xs k up later passes fails)
  | inr here ↦
      (let e : k ≡ x = grind (arith, nat_tests) in
      let one : test x ≡ true = ap test (sym e) ∙ passes in
      let none : more x ≡ false = ap more (sym e) ∙ fails in
      let rest = filter_most test more xs up in
      subst (λ b. suc (length (if b then x ∷ filter more xs else filter more xs)) ≤ length (if test x then x ∷ filter test xs else filter test xs)) (sym none)
      (subst (λ b. suc (length (filter more xs)) ≤ length (if b then x ∷ filter test xs else filter test xs)) (sym one) (omega arith)))
] where
  step : suc (length (filter more xs)) ≤ length (filter test xs) → suc (length (filter more (x ∷ xs))) ≤ length (filter test (x ∷ xs))
  step less =
      elim (more x) as (λ b. more x ≡ b → suc (length (if b then x ∷ filter more xs else filter more xs))
      ≤ length (if test x then x ∷ filter test xs else filter test xs)) [
        | true ↦ λ t. subst (λ b. suc (length (x ∷ filter more xs)) ≤ length (if b then x ∷ filter test xs else filter test xs)) (sym (up x t)) (omega arith)
        | false ↦ λ t. elim (test x) as (λ b. suc (length (filter more xs)) ≤ length (if b then x ∷ filter test xs else filter test xs)) [
          | true ↦ omega arith
          | false ↦ less
        ]
      ] refl

-- one point fewer is left to be revisited
pub unvisited_less : (face : InterfaceView) (s : State) (k : ℕ) → is_listed face k ≡ true → is_in s.revisited k ≡ false
    → suc (unvisited_in face (record s { revisited = k ∷ s.revisited })) ≤ unvisited_in face s
unvisited_less face s k listed fresh =
    filter_less (λ p. not (is_in s.revisited p)) (λ p. not (is_in (k ∷ s.revisited) p)) (points_of face) k
    (λ p. weaker (is_in s.revisited p) (p == k)) (listed_in face.points k listed) (ap not fresh)
    (ap not (ap (λ b. is_in s.revisited k || b) (eq-eqb k k refl) ∙ or-true (is_in s.revisited k))) where
      weaker : (a b : Bool) → not (a || b) ≡ true → not a ≡ true
      weaker true b h = h
      weaker false b h = refl

-- no more points are left than there are
pub unvisited_most : (face : InterfaceView) (s : State) → unvisited_in face s ≤ length (points_of face)
unvisited_most face s = go (points_of face) where
  go : (xs : List ℕ) → length (filter (λ p. not (is_in s.revisited p)) xs) ≤ length xs
  go [] = omega arith
  go (x ∷ xs) =
      (let rest = go xs in
      elim (not (is_in s.revisited x)) as (λ b. length (if b then x ∷ filter (λ p. not (is_in s.revisited p)) xs else filter (λ p. not (is_in s.revisited p))
      xs)
      ≤ length (x ∷ xs)) [ true ↦ omega arith | false ↦ omega arith ])

-- what a state says of the networks for which it stands
pub stop_excludes : (v : SharedView) (t : SharedCycle) → v.state.stop ≡ Some t → OfStanding v (λ net. IsConsistent (point_count net) (arcs_of net) → ⊥)
stop_excludes v t stopped net st = (stop_shows net st.network st.summaries st.right v.journal v.state st.replays t stopped).1

pub stops_exclude : (v : SharedView) (o : Option SharedCycle) → o ≡ v.state.stop
    → IfSome o (λ t. OfStanding v (λ net. IsConsistent (point_count net) (arcs_of net) → ⊥))
stops_exclude v None is = tt
stops_exclude v (Some t) is = stop_excludes v t (sym is)

-- a told summary fits its agent
entries_fit : (face : InterfaceView) (ps : List Published) (a : ℕ) → ((p : Published) → Contains ps p → IsFitting face p.agent p.entries)
    → published_in ps a ≡ true → IsFitting face a (entries_in ps a)
entries_fit face [] a fits there = absurd (cc)
entries_fit face (p ∷ ps) a fits there = elim (cases_eq a p.agent) [
  | inl same ↦
      subst (λ b. IsFitting face a (if b then p.entries else entries_in ps a)) (sym (eq-eqb a p.agent same))
      (subst (λ b. IsFitting face b p.entries) (sym same) (fits p (0, omega arith, refl)))
  | inr apart ↦
      (let t : (a == p.agent) ≡ false = ne_eqb a p.agent apart in
      subst (λ b. IsFitting face a (if b then p.entries else entries_in ps a)) (sym t)
      (entries_fit face ps a (λ q here. fits q (suc here.0, omega (arith, here.1), here.2)) (left (published_in ps a) (a == p.agent) t there)))
] where
  left : (x y : Bool) → y ≡ false → (x || y) ≡ true → x ≡ true
  left true y e h = refl
  left false y e h = absurd (cc)

pub told_fits : {X : Type 0} (o : Option X) (entries : X → Summary) (face : InterfaceView) (s : State) (a : ℕ) → IsSound face s
    → IfSome o (λ x. (is_published s a ≡ true) × (entries x ≡ entries_in s.published a)) → IfSome o (λ x. IsFitting face a (entries x))
told_fits {X} None entries face s a sound h = tt
told_fits {X} (Some x) entries face s a sound h = subst (IsFitting face a) (sym h.1) (entries_fit face s.published a sound.fitting h.0)

pub final_is_least : (v : SharedView) (i j : ℕ) (b : ℤ) → final v.face v.state i j ≡ Some b
    → OfStanding v (λ net. IsLeastBound (point_count net) (arcs_of net) i j b)
final_is_least v i j b is net st =
    let here : final (interface_of net) v.state i j ≡ Some b = subst (λ f. final f v.state i j ≡ Some b) st.face is in
    let there = final_there (interface_of net) v.state i j b here in
    let bound = finals_bound net st.network st.summaries st.right v.journal v.state st.replays i j there.0 there.1 there.2 in
    let same : Some bound.0 ≡ Some b = sym bound.1 ∙ here in
    let e : bound.0 ≡ b = cc in
    subst (IsLeastBound (point_count net) (arcs_of net) i j) e bound.2

pub finals_are_least : (v : SharedView) (i j : ℕ) (o : Option ℤ) → o ≡ final v.face v.state i j
    → IfSome o (λ b. OfStanding v (λ net. IsLeastBound (point_count net) (arcs_of net) i j b))
finals_are_least v i j None is = tt
finals_are_least v i j (Some b) is = final_is_least v i j b (sym is)

-- and of those that it is the replay of
pub verdict : (v : SharedView) (net : Net) (summaries : List Summary) → IsNetwork net → v.face ≡ interface_of net → AreRight net summaries
    → replay (interface_of net) summaries start v.journal ≡ Some v.state → IsVerdictOn net v
verdict v net summaries valid face right replays =
    record {
      stops = λ stopped. some v.state.stop refl stopped;
      whole = λ all whole.
          whole_shows net valid summaries right v.journal v.state replays (subst (λ f. IsAllPublished f v.state) face all)
          (subst (λ f. IsWhole f v.state) face whole);
      finals = λ i j. go i j (final v.face v.state i j) refl;
    } where
      stands : StandsFor net v
      stands = record { network = valid; face = face; summaries = summaries; right = right; replays = replays }

      some : (o : Option SharedCycle) → v.state.stop ≡ o → is_some v.state.stop ≡ true → IsConsistent (point_count net) (arcs_of net) → ⊥
      some None is there = absurd (false≢true (sym (ap (λ o. is_some o) is) ∙ there))
      some (Some t) is there = stop_excludes v t is net stands

      go : (i j : ℕ) (o : Option ℤ) → final v.face v.state i j ≡ o
          → IfSome o (λ b. IsLeastBound (point_count net) (arcs_of net) i j b)
      go i j None is = tt
      go i j (Some b) is = final_is_least v i j b is net stands
