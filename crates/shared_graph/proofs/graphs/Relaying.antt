-- The keys of the points that may be revisited, from step to step. Before the order is done no revisit is legal, so no place has a key; the step after
-- which it is done finds all keys, and a revisit those of its place and of the places joined with it.
--   order_done, shut_where      a revisit is legal only where no agent and no point is left
--   unpublished_shuts, untaken_shuts, stopped_shuts     so none is before a publish or an elimination, nor after a stop
--   none_keyed, shut_keys       no place has a key exactly where no revisit is legal
--   relay_begun, relay_found, relay_shut, relay_others  what is kept at the start, and after a step
--   least_ready, none_first, least_of_all, all_revisited    the first place, and where there is none
use Rattle.std.proofs.Common.{zero, suc, ◌≡◌, ℕ, ◌+◌, ◌<◌, ◌≤◌, List, ◌∷◌, Bool, true, false, not, Option, Some, None, ap, sym, ◌∙◌, refl, arith, inl, inr}
use Rattle.std.proofs.Common.{length, subst, replicate}
use Rattle.std.specs.Prelude.{if◌then◌else◌, is_some}
use Rattle.std.proofs.Math.Bool.{not-not}
use Rattle.std.proofs.lemmas.Bool.{cases_lt, false≢true}
use Rattle.std.proofs.lemmas.List.{get_or-replicate, length-replicate}
use Rattle.stn_model.specs.declared.ids.PointId.{PointId}
use Rattle.stn_walk.specs.Eliminations.{is_in}
use Rattle.elim_step.specs.Eliminated.{point_at}
use Rattle.elim_step.specs.Eliminates.{remains, count_below}
use Rattle.elim_step.specs.Rankings.{IsFirst}
use Rattle.shared_graph.specs.declared.events.By.{By}
use Rattle.shared_graph.specs.declared.events.By.TheVariants.{Joiner}
use Rattle.shared_graph.specs.declared.events.Event.{Event}
use Rattle.shared_graph.specs.declared.events.Event.TheVariants.{Publish, Eliminate, Stop, Revisit, Assign, Widen}
use Rattle.shared_graph.specs.declared.events.Illegal.{Illegal}
use Rattle.shared_graph.specs.declared.events.Illegal.TheVariants.{Stopped}
use Rattle.shared_graph.specs.declared.events.Phase.TheVariants.{Reverse}
use Rattle.shared_graph.specs.declared.events.SharedCycle.{SharedCycle}
use Rattle.shared_graph.specs.Firsts.{IsLeastRevisit}
use Rattle.shared_graph.specs.Graphs.{GraphView, places_in, flag_at, Fields, IsGraph}
use Rattle.shared_graph.specs.Interfaces.{InterfaceView, IsInterface, points_of}
use Rattle.shared_graph.specs.Journals.{is_step_of, rank_of, IsLeastStep, IsDone}
use Rattle.shared_graph.specs.Readiness.{revisit_key, AreKeys, AreKeysBut, IsShut, IsRelay}
use Rattle.shared_graph.specs.Refusals.{cause_of, refusal}
use Rattle.shared_graph.specs.States.{State, agent_id, point_id, is_published}
use Rattle.shared_graph.specs.Takes.{MayEliminate}
use Rattle.shared_graph.specs.Together.{IsAllPublished, IsWhole}
use Rattle.shared_graph.proofs.graphs.Counts.{count_shift}
use Rattle.shared_graph.proofs.graphs.Readied.{keys_after, first_ready, keyed}
use Rattle.shared_graph.proofs.graphs.Scans.{first_remains, taken_is}
use Rattle.shared_graph.proofs.graphs.Standing.{listed_at, places_apart}
use Rattle.shared_graph.proofs.states.Keeps.{IsSound}
use Rattle.shared_graph.proofs.states.Passing.{no_stop, publish_passes, eliminate_passes, stop_passes, revisit_passes}
use Rattle.shared_graph.proofs.states.Progress.{may_revisit}
use Rattle.shared_graph.proofs.states.Stops.{negative_stops}

-- how many pass where none does, and where only the first does
none_below : (test : ℕ → Bool) (n : ℕ) → ((a : ℕ) → a < n → test a ≡ false) → count_below test n ≡ 0
none_below test zero none = refl
none_below test (suc n) none =
    let here = none n (omega arith) in
    let rest = none_below test n (λ a lt. none a (omega arith)) in
    (λ t. (if here t then 1 else 0) + rest t)

only_first : (test : ℕ → Bool) (n : ℕ) → test 0 ≡ true → ((a : ℕ) → 0 < a → a < suc n → test a ≡ false) → count_below test (suc n) ≡ 1
only_first test n first none =
    let rest = none_below (λ k. test (suc k)) n (λ a lt. none (suc a) (omega arith) (omega arith)) in
    count_shift test n ∙ (λ t. (if first t then 1 else 0) + rest t)

-- where some revisit is legal, no agent and no point is left, and no stop was entered
module _ (g : Fields) (h : IsGraph g) where
  order_done : (by : By) (k : PointId) → refusal g.face g.state (record { by = by; event = Revisit k }) ≡ None
      → (g.unpublished ≡ 0) × (g.untaken ≡ 0) × (g.state.stop ≡ None)
  order_done by k legal =
      let going = no_stop g.face g.state (record { by = by; event = Revisit k }) legal in
      let passes = revisit_passes g.face g.state by k.0 going.1 in
      let none : g.unpublished ≡ 0 = h.unpublished
      ∙ none_below (λ a. not (is_published g.state a)) (length g.face.leans) (λ a lt. ap not (passes.1 a lt)) in
      let one : count_below (remains g.remain) (suc (length (points_of g.face))) ≡ 1 =
      only_first (remains g.remain) (length (points_of g.face)) (first_remains g h) (gone passes.2) in
      let count : suc g.untaken ≡ 1 = h.untaken ∙ ap (λ ps. count_below (remains g.remain) (length ps)) h.points ∙ one in
      (none, omega arith, going.0) where
        gone : IsWhole g.face g.state → (a : ℕ) → 0 < a → a < suc (length (points_of g.face)) → remains g.remain a ≡ false
        gone whole a above lt =
            let out : not (remains g.remain a) ≡ true = taken_is g h a lt
            ∙ whole (point_at (places_in g.face) a) (listed_at g.face h.interface a above lt) in
            sym (not-not (remains g.remain a)) ∙ ap not out

  pub shut_where : (v : GraphView) → record { face = g.face; state = g.state } ≡ v → (b : Bool)
      → (g.unpublished ≡ 0 → g.untaken ≡ 0 → g.state.stop ≡ None → b ≡ true) → b ≡ false → IsShut v.face v.state
  shut_where v is b done off = subst (λ (v : GraphView). IsShut v.face v.state) is
      (λ by k. go by k (refusal g.face g.state (record { by = by; event = Revisit k })) refl) where
        go : (by : By) (k : PointId) (o : Option Illegal) → refusal g.face g.state (record { by = by; event = Revisit k }) ≡ o → is_some o ≡ true
        go by k (Some cause) e = refl
        go by k None e = (let parts = order_done by k e in absurd (false≢true (sym off ∙ done parts.0 parts.1 parts.2)))

-- no revisit is legal where an agent has not published, where a point is not eliminated, and after a stop
module _ (face : InterfaceView) (s : State) where
  shuts : (IsAllPublished face s → IsWhole face s → ⊥) → IsShut face s
  shuts apart by k = go (refusal face s (record { by = by; event = Revisit k })) refl where
    go : (o : Option Illegal) → refusal face s (record { by = by; event = Revisit k }) ≡ o → is_some o ≡ true
    go (Some cause) e = refl
    go None e =
        (let passes = revisit_passes face s by k.0 (no_stop face s (record { by = by; event = Revisit k }) e).1 in
        absurd (apart passes.1 passes.2))

  pub unpublished_shuts : (by : By) (a : ℕ) → refusal face s (record { by = by; event = Publish (agent_id a) }) ≡ None → IsShut face s
  unpublished_shuts by a legal =
      let passes = publish_passes face s by a (no_stop face s (record { by = by; event = Publish (agent_id a) }) legal).1 in
      shuts (λ all whole. false≢true (sym passes.1 ∙ all a passes.0))

  pub untaken_shuts : (by : By) (k : PointId) → MayEliminate face s by k → IsShut face s
  untaken_shuts by k (inl legal) =
      let p = eliminate_passes face s by k.0 (no_stop face s (record { by = by; event = Eliminate k }) legal).1 in
      shuts (λ all whole. false≢true (sym p.1 ∙ whole k.0 (ap (λ o. is_some o) p.0.1)))
  untaken_shuts by k (inr refused) =
      let legal = (negative_stops face s by k.0 refused.0).0 refused.1 in
      let p = stop_passes face s by k.0 refused.0 (no_stop face s (record { by = by; event = Stop k (point_id refused.0) }) legal).1 in
      shuts (λ all whole. false≢true (sym p.1 ∙ whole k.0 (ap (λ o. is_some o) p.0.1)))

  pub stopped_shuts : (c : SharedCycle) → s.stop ≡ Some c → IsShut face s
  stopped_shuts c stop by k = ap (λ o. is_some (if is_some o then Some Stopped else cause_of face s by (Revisit k))) stop

  -- where no revisit is legal, no place has a key, and the other way round
  no_key : IsShut face s → (p : ℕ) → revisit_key face s p ≡ None
  no_key shut p = ap (λ b. if b then None else Some 0) (shut Joiner (point_id p))

  pub none_keyed : (keys : ℕ → Option ℕ) → AreKeys face s keys → IsShut face s → (k : ℕ) → keys k ≡ None
  none_keyed keys right shut k = elim (cases_lt k (length (places_in face))) [
    | inl low ↦ right.within k low ∙ no_key shut (point_at (places_in face) k)
    | inr high ↦ right.beyond k high
  ]

  pub shut_keys : (keys : ℕ → Option ℕ) → ((k : ℕ) → keys k ≡ None) → IsShut face s → AreKeys face s keys
  shut_keys keys none shut = record {
    within = λ k low. none k ∙ sym (no_key shut (point_at (places_in face) k));
    beyond = λ k high. none k;
  }

-- what is kept at the start, and after steps
pub relay_begun : (face : InterfaceView) (s : State) (size : ℕ) (keys : ℕ → Option ℕ) (all : List Bool) → size ≡ length (places_in face)
    → AreKeys face s keys → all ≡ replicate (length (places_in face)) true → IsRelay face s size keys all
relay_begun face s size keys all many right same = record {
  size = many;
  keys = right;
  all_len = ap length same ∙ length-replicate (length (places_in face)) true;
  all = λ k low. ap (λ flags. flag_at flags k) same ∙ get_or-replicate (length (places_in face)) k true false low;
}

module _ (face new : InterfaceView) (s t : State) (size : ℕ) (keys : ℕ → Option ℕ) (all : List Bool) (relay : IsRelay face s size keys all)
    (same : new ≡ face) where
  pub same_size : size ≡ length (places_in new)
  same_size = relay.size ∙ ap (λ f. length (places_in f)) (sym same)

  pub same_len : length all ≡ length (places_in new)
  same_len = relay.all_len ∙ ap (λ f. length (places_in f)) (sym same)

  pub same_flags : (k : ℕ) → k < length (places_in new) → flag_at all k ≡ true
  same_flags k low = relay.all k (subst (λ f. k < length (places_in f)) same low)

  pub relay_found : (many : ℕ) (after : ℕ → Option ℕ) → many ≡ size → AreKeys new t after → IsRelay new t many after all
  relay_found many after kept right = record { size = kept ∙ same_size; keys = right; all_len = same_len; all = same_flags }

  pub relay_shut : IsShut face s → IsShut new t → IsRelay new t size keys all
  relay_shut before shut = relay_found size keys refl (shut_keys new t keys (none_keyed face s keys relay.keys before) shut)

-- after a revisit only the keys of the place and of those joined with it may be others
pub relay_others : (face new : InterfaceView) (s t : State) (size : ℕ) (keys : ℕ → Option ℕ) (all : List Bool) (m p : ℕ) → IsInterface face
    → IsRelay face s size keys all → new ≡ face → t ≡ record s { revisited = p ∷ s.revisited } → m < length (places_in face)
    → point_at (places_in face) m ≡ p → AreKeysBut new t m keys
relay_others face new s t size keys all m p known relay is_face is_state low here =
    keys_after face new s t keys m relay.keys is_face (is_state ∙ ap (λ q. record s { revisited = q ∷ s.revisited }) (sym here))
    (places_apart face known) low

module _ (face : InterfaceView) (known : IsInterface face) (s : State) (keys : ℕ → Option ℕ) (right : AreKeys face s keys) where
  -- the first place is that of the least point that may be revisited
  pub least_ready : (place : ℕ) → IsFirst keys (Some place) → IsLeastRevisit face s (point_id (point_at (places_in face) place))
  least_ready place first =
      let step = first_ready face known s keys right place first in
      record { legal = λ by. step.legal; least = λ by p ok. step.least (Revisit p) refl ok }

  -- where no place comes first, no point may be revisited
  pub none_first : IsFirst keys None → IsShut face s
  none_first none by k = go (refusal face s (record { by = Joiner; event = Revisit k })) refl where
    go : (o : Option Illegal) → refusal face s (record { by = Joiner; event = Revisit k }) ≡ o → is_some o ≡ true
    go (Some cause) e = refl
    go None e = (let r = keyed face known s keys right k.0 e in absurd (let f = sym (none r.0) ∙ r.3 in cc))

-- the least revisit is the least step of its phase
pub least_of_all : (face : InterfaceView) (s : State) (k : PointId) → IsLeastRevisit face s k
    → IsLeastStep face s Reverse (record { by = Joiner; event = Revisit k })
least_of_all face s k revisit = record { joiner = refl; step = refl; legal = revisit.legal Joiner; least = least } where
  least : (f : Event) → is_step_of Reverse f ≡ true → refusal face s (record { by = Joiner; event = f }) ≡ None → k.0 ≤ rank_of f
  least (Publish b) is ok = absurd (false≢true is)
  least (Eliminate p) is ok = absurd (false≢true is)
  least (Stop p i) is ok = absurd (false≢true is)
  least (Revisit p) is ok = revisit.least Joiner p ok
  least (Assign p v) is ok = absurd (false≢true is)
  least (Widen p end) is ok = absurd (false≢true is)

-- where no point may be revisited though the order is done, all are
pub all_revisited : (face : InterfaceView) → IsInterface face → (s : State) → IsSound face s → s.stop ≡ None → IsAllPublished face s → IsWhole face s
    → IsShut face s → IsDone face s Reverse
all_revisited face known s sound going all whole shut p listed = go (is_in s.revisited p) refl where
  go : (b : Bool) → is_in s.revisited p ≡ b → is_in s.revisited p ≡ true
  go true t = t
  go false t =
      (let there = may_revisit face known s sound going all whole p listed t in
      absurd (false≢true (sym (ap (λ o. is_some o) there.2) ∙ shut Joiner (point_id there.0))))
