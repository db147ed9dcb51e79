-- The joiner's steps of a phase, each the least that is left: finished_nothing, finished_one, finished_join, finished_publish, published_or_not,
-- agree_same; which steps are the least: least_publish, may_take, finished_taken; what an elimination leaves: taken_face,
-- taken_published, taken_kept; points by item: item_of, item_listed, items_rise, below_items, below_points,
-- next_point, all_points, same_length; and what stays: still_published, stays_going.
use Rattle.std.proofs.Common.{◌≡◌, ℕ, ◌+◌, ◌<◌, ◌≤◌, List, [], ◌∷◌, ◌++◌, Bool, true, false, ◌||◌, Option, Some, None, ap, sym, ◌∙◌, refl, arith}
use Rattle.std.proofs.Common.{inl, inr, length, subst, get_or, map, not, append_assoc, append-nil}
use Rattle.std.specs.Prelude.{◌==◌, if◌then◌else◌, is_some, Result, Ok, Err, OnOk, OnErr}
use Rattle.std.specs.Option.{option_map}
use Rattle.std.proofs.lemmas.Bool.{cases_lt, cases_eq, false≢true, eq-eqb, ne_eqb}
use Rattle.std.proofs.lemmas.List.{get_or-map, length-map}
use Rattle.stn_model.specs.Limits.{most_agents}
use Rattle.stn_model.specs.declared.ids.PointId.{PointId}
use Rattle.stn_walk.specs.Eliminations.{is_in}
use Rattle.shared_graph.specs.declared.events.By.{By}
use Rattle.shared_graph.specs.declared.events.By.TheVariants.{Joiner}
use Rattle.shared_graph.specs.declared.events.Eliminated.{Eliminated}
use Rattle.shared_graph.specs.declared.events.Eliminated.TheVariants.{Clear, Stopped}
use Rattle.shared_graph.specs.declared.events.Entry.{Entry}
use Rattle.shared_graph.specs.declared.events.Event.{Event}
use Rattle.shared_graph.specs.declared.events.Event.TheVariants.{Publish, Eliminate, Stop, Revisit, Assign, Widen}
use Rattle.shared_graph.specs.declared.events.Illegal.TheVariants.{Stopped as StoppedBefore, AlreadyDone}
use Rattle.shared_graph.specs.declared.events.Phase.{Phase}
use Rattle.shared_graph.specs.declared.events.Phase.TheVariants.{Order}
use Rattle.shared_graph.specs.declared.events.SharedCycle.{SharedCycle}
use Rattle.shared_graph.specs.Histories.{SharedView}
use Rattle.shared_graph.specs.Interfaces.{InterfaceView, Summary, IsInterface, owner_in, points_of, is_listed}
use Rattle.shared_graph.specs.Journals.{is_step_of, IsEliminatedBy, rank_of, IsLeastStep, AreLeastSteps, AgreeWith, IsFinished}
use Rattle.shared_graph.specs.Publications.{entries_in}
use Rattle.shared_graph.specs.Refusals.{negative, not_published, or_else, owner_tests, refusal}
use Rattle.shared_graph.specs.Replays.{summary_of, after}
use Rattle.shared_graph.specs.States.{State, Published, agent_id, point_id, published_in, is_published}
use Rattle.shared_graph.specs.Takes.{MayEliminate}
use Rattle.shared_graph.specs.Together.{IsAllPublished, IsWhole, IsOwned}
use Rattle.shared_graph.specs.Weights.{least_negative}
use Rattle.shared_graph.proofs.states.Keeps.{IsSound}
use Rattle.shared_graph.proofs.states.Meetings.{listed_of, owner_of_listed}
use Rattle.shared_graph.proofs.states.Passing.{no_stop, publish_passes, eliminate_passes, stop_passes, listed_in}
use Rattle.shared_graph.proofs.graphs.FirstTimes.{owner_below}
use Rattle.shared_graph.proofs.graphs.Scans.{listed_item}
use Rattle.shared_graph.proofs.graphs.Standing.{rises_pairs}
use Rattle.shared_graph.proofs.states.Grounds.{member_at}
use Rattle.shared_graph.proofs.states.Progress.{may_publish}
use Rattle.shared_graph.proofs.states.Rising.{points_rise}
use Rattle.shared_graph.proofs.states.Stops.{negative_stops}

-- steps that follow others
least-append : (face : InterfaceView) (summaries : List Summary) (phase : Phase) (es fs : List Entry) (s t u : State)
    → AreLeastSteps face summaries phase s es t → AreLeastSteps face summaries phase t fs u → AreLeastSteps face summaries phase s (es ++ fs) u
least-append face summaries phase [] fs s t u h g = subst (λ r. AreLeastSteps face summaries phase r fs u) (sym h) g
least-append face summaries phase (e ∷ es) fs s t u h g = (h.0, least-append face summaries phase es fs (after face summaries s e.event) t u h.1 g)

-- an agent's listed summary, whatever else changes
pub agree_same : (summaries : List Summary) (s t : State) → t.published ≡ s.published → AgreeWith summaries s → AgreeWith summaries t
agree_same summaries s t same agree =
    subst (λ (ps : List Published). (a : ℕ) → published_in ps a ≡ true → entries_in ps a ≡ summary_of summaries a) (sym same) agree

agree_published : (summaries : List Summary) (s : State) (agent : ℕ) → AgreeWith summaries s
    → AgreeWith summaries (record s { published = record { agent = agent; entries = summary_of summaries agent } ∷ s.published })
agree_published summaries s agent agree a there =
    elim (cases_eq a agent) [
      | inl same ↦
          (let t : (a == agent) ≡ true = eq-eqb a agent same in
          (λ i. if t i then summary_of summaries agent else entries_in s.published a) ∙ ap (summary_of summaries) (sym same))
      | inr apart ↦
          (let t : (a == agent) ≡ false = ne_eqb a agent apart in
          (λ i. if t i then summary_of summaries agent else entries_in s.published a)
          ∙ agree a (left (published_in s.published a) (a == agent) t there))
    ] where
      left : (x y : Bool) → y ≡ false → (x || y) ≡ true → x ≡ true
      left true y e h = refl
      left false y e h = absurd (cc)

-- nothing is left to be done
pub finished_nothing : (summaries : List Summary) (phase : Phase) (v : SharedView) → AgreeWith summaries v.state → IsFinished summaries phase v v
finished_nothing summaries phase v agree = record { face = refl; steps = []; least = refl; journal = sym (append-nil v.journal); agree = agree }

-- one step is
pub finished_one : (summaries : List Summary) (phase : Phase) (v w : SharedView) (e : Entry) → IsLeastStep v.face v.state phase e → w.face ≡ v.face
    → w.state ≡ after v.face summaries v.state e.event → w.journal ≡ v.journal ++ e ∷ [] → AgreeWith summaries w.state → IsFinished summaries phase v w
finished_one summaries phase v w e least face state journal agree = record {
  face = face;
  steps = e ∷ [];
  least = (least, sym state);
  journal = journal;
  agree = agree;
}

-- and others are
pub finished_join : (summaries : List Summary) (phase : Phase) (u v w : SharedView) → IsFinished summaries phase u v → IsFinished summaries phase v w
    → IsFinished summaries phase u w
finished_join summaries phase u v w h g = record {
  face = g.face ∙ h.face;
  steps = h.steps ++ g.steps;
  least =
      least-append u.face summaries phase h.steps g.steps u.state v.state w.state h.least
      (subst (λ f. AreLeastSteps f summaries phase v.state g.steps w.state) h.face g.least);
  journal = g.journal ∙ ap (λ es. es ++ g.steps) h.journal ∙ append_assoc u.journal h.steps g.steps;
  agree = g.agree;
}

-- a publish leaves the published agents published
pub finished_publish : (summaries : List Summary) (v w : SharedView) (agent : ℕ) (entries : Summary) → AgreeWith summaries v.state
    → IsLeastStep v.face v.state Order (record { by = Joiner; event = Publish (agent_id agent) }) → entries ≡ summary_of summaries agent
    → w.face ≡ v.face → w.state ≡ record v.state { published = record { agent = agent; entries = entries } ∷ v.state.published }
    → w.journal ≡ v.journal ++ record { by = Joiner; event = Publish (agent_id agent) } ∷ [] → IsFinished summaries Order v w
finished_publish summaries v w agent entries agree least same face state journal =
    let now : w.state ≡ record v.state { published = record { agent = agent; entries = summary_of summaries agent } ∷ v.state.published } =
    state ∙ ap (λ es. record v.state { published = record { agent = agent; entries = es } ∷ v.state.published }) same in
    finished_one summaries Order v w (record { by = Joiner; event = Publish (agent_id agent) }) least face now journal
    (subst (AgreeWith summaries) (sym now) (agree_published summaries v.state agent agree))

-- or memory ran out
pub published_or_not : {A E : Type 0} (summaries : List Summary) (v w : SharedView) (agent : ℕ) (entries : Summary) (r : Result A E)
    → AgreeWith summaries v.state → IsLeastStep v.face v.state Order (record { by = Joiner; event = Publish (agent_id agent) })
    → entries ≡ summary_of summaries agent → w.face ≡ v.face
    → OnOk r (w.state ≡ record v.state { published = record { agent = agent; entries = entries } ∷ v.state.published })
    → OnOk r (w.journal ≡ v.journal ++ record { by = Joiner; event = Publish (agent_id agent) } ∷ []) → OnErr r (w ≡ v) → IsFinished summaries Order v w
published_or_not {A} {E} summaries v w agent entries (Ok x) agree least same face state journal err =
    finished_publish summaries v w agent entries agree least same face state journal
published_or_not {A} {E} summaries v w agent entries (Err x) agree least same face state journal err =
    subst (IsFinished summaries Order v) (sym err) (finished_nothing summaries Order v agree)

-- what a step leaves as it is
pub still_published : (v w : SharedView) → w.face ≡ v.face → w.state.published ≡ v.state.published → IsAllPublished v.face v.state
    → IsAllPublished w.face w.state
still_published v w face published all a low =
    ap (λ ps. published_in ps a) published ∙ all a (subst (λ (f : InterfaceView). a < length f.leans) face low)

pub stays_going : (s : State) (b : Bool) → b ≡ is_some s.stop → b ≡ false → s.stop ≡ None
stays_going s b is none = go s.stop (sym is ∙ none) where
  go : (o : Option SharedCycle) → is_some o ≡ false → o ≡ None
  go None h = refl
  go (Some t) h = absurd (cc)

module _ (face : InterfaceView) (known : IsInterface face) (s : State) (sound : IsSound face s) (going : s.stop ≡ None) where
  -- the least agent that has not published
  pub least_publish : (a : ℕ) → a < length face.leans → is_published s a ≡ false → ((b : ℕ) → b < a → is_published s b ≡ true)
      → IsLeastStep face s Order (record { by = Joiner; event = Publish (agent_id a) })
  least_publish a low fresh before = record {
    joiner = refl;
    step = refl;
    legal = may_publish face known s sound going a low fresh;
    least = first;
  } where
    few : a ≤ most_agents
    few = (let most = known.few_agents in omega arith)

    first : (f : Event) → is_step_of Order f ≡ true → refusal face s (record { by = Joiner; event = f }) ≡ None → a ≤ rank_of f
    first (Publish b) is legal =
        (let passes = publish_passes face s Joiner b.0 (no_stop face s (record { by = Joiner; event = Publish b }) legal).1 in
        elim (cases_lt b.0 a) [ inl less ↦ absurd (false≢true (sym passes.1 ∙ before b.0 less)) | inr more ↦ more ])
    first (Eliminate k) is legal = omega arith
    first (Stop k i) is legal = omega arith
    first (Revisit k) is legal = absurd (false≢true is)
    first (Assign k v) is legal = absurd (false≢true is)
    first (Widen k end) is legal = absurd (false≢true is)

  -- all agents have published, and this point is not eliminated
  module _ (all : IsAllPublished face s) (k : ℕ) (listed : is_listed face k ≡ true) (fresh : is_in s.order k ≡ false) where
    own : IsOwned face s k
    own = (let o = owner_of_listed face k listed in (o.0, o.1, all o.0 (owner_below face known k o.0 o.1)))

    eliminate_is : refusal face s (record { by = Joiner; event = Eliminate (point_id k) }) ≡ option_map negative (least_negative face s k)
    eliminate_is =
        let tests : owner_tests s Joiner k (owner_in face k) ≡ None =
        (let owner = own.1 in let done = own.2 in
        ap (owner_tests s Joiner k) owner ∙ (λ t. if not (done t) then Some (not_published own.0) else (if fresh t then Some AlreadyDone else None))) in
        (λ t. if is_some (going t) then Some StoppedBefore else or_else (tests t) (option_map negative (least_negative face s k)))

    pub may_take : MayEliminate face s Joiner (point_id k)
    may_take = go (least_negative face s k) refl where
      go : (o : Option ℕ) → least_negative face s k ≡ o → MayEliminate face s Joiner (point_id k)
      go None e = inl (eliminate_is ∙ ap (option_map negative) e)
      go (Some i) e = inr (i, eliminate_is ∙ ap (option_map negative) e)

    module _ (before : (p : ℕ) → is_listed face p ≡ true → p < k → is_in s.order p ≡ true) where
      not_before : (p : ℕ) → IsOwned face s p → is_in s.order p ≡ false → k ≤ p
      not_before p o out = elim (cases_lt p k) [
        | inl less ↦ absurd (false≢true (sym out ∙ before p (listed_of face p o.0 o.1) less))
        | inr more ↦ more
      ]

      first_point : (f : Event) → is_step_of Order f ≡ true → refusal face s (record { by = Joiner; event = f }) ≡ None → most_agents + k ≤ rank_of f
      first_point (Publish b) is legal =
          (let passes = publish_passes face s Joiner b.0 (no_stop face s (record { by = Joiner; event = Publish b }) legal).1 in
          absurd (false≢true (sym passes.1 ∙ all b.0 passes.0)))
      first_point (Eliminate p) is legal =
          (let passes = eliminate_passes face s Joiner p.0 (no_stop face s (record { by = Joiner; event = Eliminate p }) legal).1 in
          let more = not_before p.0 passes.0 passes.1 in omega arith)
      first_point (Stop p i) is legal =
          (let passes = stop_passes face s Joiner p.0 i.0 (no_stop face s (record { by = Joiner; event = Stop p i }) legal).1 in
          let more = not_before p.0 passes.0 passes.1 in omega arith)
      first_point (Revisit p) is legal = absurd (false≢true is)
      first_point (Assign p v) is legal = absurd (false≢true is)
      first_point (Widen p end) is legal = absurd (false≢true is)

      least_eliminate : least_negative face s k ≡ None → IsLeastStep face s Order (record { by = Joiner; event = Eliminate (point_id k) })
      least_eliminate none = record { joiner = refl; step = refl; legal = eliminate_is ∙ ap (option_map negative) none; least = first_point }

      least_stop : (i : ℕ) → least_negative face s k ≡ Some i → IsLeastStep face s Order (record { by = Joiner; event = Stop (point_id k) (point_id i) })
      least_stop i some = record {
        joiner = refl;
        step = refl;
        legal = (negative_stops face s Joiner k i).0 (eliminate_is ∙ ap (option_map negative) some);
        least = first_point;
      }

-- an elimination or a stop is the least step
pub finished_taken : (summaries : List Summary) (v w : SharedView) (k : PointId) (r : Eliminated) → IsInterface v.face → IsSound v.face v.state
    → v.state.stop ≡ None → IsAllPublished v.face v.state → is_listed v.face k.0 ≡ true → is_in v.state.order k.0 ≡ false
    → ((p : ℕ) → is_listed v.face p ≡ true → p < k.0 → is_in v.state.order p ≡ true) → IsEliminatedBy Joiner k v w r → AgreeWith summaries v.state
    → IsFinished summaries Order v w
finished_taken summaries v w k Clear known sound going all listed fresh before h agree =
    finished_one summaries Order v w (record { by = Joiner; event = Eliminate k })
    (least_eliminate v.face known v.state sound going all k.0 listed fresh before h.1)
    h.0 h.2 h.3 (agree_same summaries v.state w.state (ap (λ (t : State). t.published) h.2) agree)
finished_taken summaries v w k (Stopped c) known sound going all listed fresh before h agree =
    finished_one summaries Order v w (record { by = Joiner; event = Stop k c.other })
    (least_stop v.face known v.state sound going all k.0 listed fresh before c.other.0 h.2) h.0
    (h.3 ∙ ap (λ p. record v.state { stop = Some (record { point = p; other = c.other }) }) h.1) h.4
    (agree_same summaries v.state w.state (ap (λ (t : State). t.published) h.3) agree)

-- what it leaves as it is
pub taken_face : (by : By) (v w : SharedView) (k : PointId) (r : Eliminated) → IsEliminatedBy by k v w r → w.face ≡ v.face
taken_face by v w k Clear h = h.0
taken_face by v w k (Stopped c) h = h.0

pub taken_published : (by : By) (v w : SharedView) (k : PointId) (r : Eliminated) → IsEliminatedBy by k v w r → w.state.published ≡ v.state.published
taken_published by v w k Clear h = ap (λ (t : State). t.published) h.2
taken_published by v w k (Stopped c) h = ap (λ (t : State). t.published) h.3

pub taken_kept : (by : By) (v w : SharedView) (k : PointId) (r : Eliminated) → IsEliminatedBy by k v w r
    → (p : ℕ) → is_in v.state.order p ≡ true → is_in w.state.order p ≡ true
taken_kept by v w k Clear h p there = ap (λ (t : State). is_in t.order p) h.2 ∙ ap (λ b. b || (p == k.0)) there
taken_kept by v w k (Stopped c) h p there = ap (λ (t : State). is_in t.order p) h.3 ∙ there

-- lists of the same points have the same length
pub same_length : (items others : List PointId) (xs ys : List ℕ) → map (λ (p : PointId). p.0) items ≡ xs → map (λ (p : PointId). p.0) others ≡ ys → xs ≡ ys
    → length items ≡ length others
same_length items others xs ys one two same =
    sym (length-map items (λ (p : PointId). p.0)) ∙ ap length (one ∙ same ∙ sym two) ∙ length-map others (λ (p : PointId). p.0)

-- the points of an interface as items of a list
module _ (face : InterfaceView) (known : IsInterface face) (items : List PointId) (same : map (λ (p : PointId). p.0) items ≡ points_of face) where
  abbrev item : ℕ → ℕ
  item n = (get_or items n (point_id 0)).0

  item_is : (n : ℕ) → n < length items → get_or (points_of face) n 0 ≡ (get_or items n (point_id 0)).0
  item_is n lt = sym (ap (λ xs. get_or xs n 0) same) ∙ get_or-map (λ (p : PointId). p.0) items n (point_id 0) 0 lt

  many : length items ≡ length (points_of face)
  many = sym (length-map items (λ (p : PointId). p.0)) ∙ ap length same

  pub item_of : (p : ℕ) → is_listed face p ≡ true → (n : ℕ) × (n < length items) × ((get_or items n (point_id 0)).0 ≡ p)
  item_of p listed =
      let r = member_at (points_of face) p (listed_in face.points p listed) in
      let lt : r.0 < length items = (let low = r.1 in let len = many in omega arith) in
      (r.0, lt, sym (item_is r.0 lt) ∙ r.2)

  pub item_listed : (n : ℕ) → n < length items → is_listed face (get_or items n (point_id 0)).0 ≡ true
  item_listed n lt = listed_item face items n same lt

  pub items_rise : (m n : ℕ) → n < length items → m < length items → (get_or items m (point_id 0)).0 < (get_or items n (point_id 0)).0 → m < n
  items_rise m n ln lm less = elim (cases_lt m n) [
    | inl first ↦ first
    | inr last ↦ elim (cases_eq m n) [
      | inl e ↦ absurd (let is = ap (λ k. (get_or items k (point_id 0)).0) e in omega arith)
      | inr other ↦
          (let len = many in
          let up = rises_pairs 1 (points_of face) (points_rise face known) n m 0 (omega arith) (omega arith) in
          let one = item_is n ln in
          let two = item_is m lm in
          absurd (omega arith))
    ]
  ]

  -- where the points before an item are eliminated, those below it are
  pub below_items : (s : State) (n : ℕ) → n < length items → ((m : ℕ) → m < n → is_in s.order (get_or items m (point_id 0)).0 ≡ true)
      → (p : ℕ) → is_listed face p ≡ true → p < (get_or items n (point_id 0)).0 → is_in s.order p ≡ true
  below_items s n lt done p listed less =
      let r = item_of p listed in
      let is = r.2 in
      let first = items_rise r.0 n lt r.1 (omega arith) in
      subst (λ q. is_in s.order q ≡ true) r.2 (done r.0 first)

  -- and so where the points of their places are
  pub below_points : (s : State) (n : ℕ) → n < length items → ((m : ℕ) → m < n → is_in s.order (get_or (points_of face) m 0) ≡ true)
      → (p : ℕ) → is_listed face p ≡ true → p < (get_or items n (point_id 0)).0 → is_in s.order p ≡ true
  below_points s n lt done = below_items s n lt (λ m low. subst (λ q. is_in s.order q ≡ true) (item_is m (omega arith)) (done m low))

-- one point more is eliminated
pub next_point : (face new : InterfaceView) → IsInterface face → (items : List PointId) → map (λ (p : PointId). p.0) items ≡ points_of face
    → (s t : State) (n : ℕ)
    → n < length items → new ≡ face → ((p : ℕ) → is_in s.order p ≡ true → is_in t.order p ≡ true)
    → ((m : ℕ) → m < n → is_in s.order (get_or (points_of face) m 0) ≡ true) → is_in t.order (get_or items n (point_id 0)).0 ≡ true
    → (m : ℕ) → m < n + 1 → is_in t.order (get_or (points_of new) m 0) ≡ true
next_point face new known items same s t n lt is kept before here m low = elim (cases_eq m n) [
  | inl e ↦
      ap (λ f. is_in t.order (get_or (points_of f) m 0)) is ∙ ap (λ k. is_in t.order (get_or (points_of face) k 0)) e
      ∙ ap (is_in t.order) (item_is face known items same n lt) ∙ here
  | inr other ↦ ap (λ f. is_in t.order (get_or (points_of f) m 0)) is ∙ kept (get_or (points_of face) m 0) (before m (omega arith))
]

-- where each is, all are
pub all_points : (face : InterfaceView) (items : List PointId) → map (λ (p : PointId). p.0) items ≡ points_of face → (s : State)
    → ((m : ℕ) → m < length items → is_in s.order (get_or (points_of face) m 0) ≡ true) → IsWhole face s
all_points face items same s done p listed =
    let r = member_at (points_of face) p (listed_in face.points p listed) in
    let len = sym (length-map items (λ (p : PointId). p.0)) ∙ ap length same in
    let lt = r.1 in
    subst (λ q. is_in s.order q ≡ true) r.2 (done r.0 (omega arith))
