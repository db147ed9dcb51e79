-- What the phase that finds the order comes to: ordered, none_of, forward_of, and what it says of networks: conflict_is, least_is, cycle_is, normal_is,
-- stopped_is, whole_is, reduced_is, stands_is, face_is, published_is, stop_is, done_is, steps_are.
use Rattle.std.proofs.Common.{◌≡◌, ℕ, ◌<◌, List, [], ◌++◌, true, false, length, map, Option, Some, None, ap, sym, ◌∙◌, refl, arith, subst, ◌⊎◌, inl, inr}
use Rattle.std.specs.Prelude.{◌↔◌, is_some}
use Rattle.std.specs.List.{list_all}
use Rattle.std.proofs.lemmas.Bool.{false≢true}
use Rattle.std.proofs.lemmas.Option.{slice_get_within}
use Rattle.stn_model.specs.Conflicts.{IsOwnConflict}
use Rattle.stn_model.specs.Net.{Net, arcs_of, point_count}
use Rattle.stn_model.specs.Schedules.{IsConsistent}
use Rattle.stn_model.specs.Walks.{IsNormal}
use Rattle.private_elim.specs.Locals.{LocalView, local_of}
use Rattle.private_elim.specs.ReducedViews.{ReducedView}
use Rattle.private_elim.specs.Reductions.{HasOwnConflict}
use Rattle.shared_graph.specs.declared.events.Phase.TheVariants.{Order}
use Rattle.shared_graph.specs.declared.events.SharedCycle.{SharedCycle}
use Rattle.shared_graph.specs.Histories.{SharedView, IsJournal}
use Rattle.shared_graph.specs.Interfaces.{InterfaceView, Summary}
use Rattle.shared_graph.specs.Journals.{AgreeWith, IsDone, IsFinished, IsVerdictOn, StandsFor, is_step_of}
use Rattle.shared_graph.specs.Replays.{replay}
use Rattle.shared_graph.specs.States.{start}
use Rattle.shared_graph.proofs.graphs.Histories.{verdict}
use Rattle.shared_graph.proofs.graphs.Onward.{agree_alike}
use Rattle.agent_worker.specs.declared.forward.Forward.{Forward}
use Rattle.agent_worker.specs.declared.forward.Forward.TheVariants.{Whole, PrivateConflict, Stopped}
use Rattle.agent_worker.specs.Forwards.{ArePartsOf, OfParts, HasOrder, IsForward, Came, is_conflict, is_stopped, is_whole}
use Rattle.agent_worker.specs.Forwards.{IfConflict, IfStopped, IfWhole, IfReduced}
use Rattle.agent_worker.specs.Phases.{GoesOn}
use Rattle.agent_worker.specs.Works.{AreReducedFrom, IsLeastConflict}
use Rattle.agent_worker.proofs.Parts.{conflict_excludes, local_at, none_conflicts, right}
use Rattle.agent_worker.proofs.Phases.{ended}

-- the graph after the workers' steps and the joiner's
pub ordered : (reduced : List ReducedView) (listed : List Summary) (kept chosen w : SharedView) → listed ≡ map (λ r. r.summary) reduced
    → GoesOn listed Order kept chosen → IsFinished listed Order chosen w → kept.journal ≡ [] → IsJournal w.face w.state w.journal
    → HasOrder kept.face reduced w
ordered reduced listed kept chosen w is on end empty j =
    let all = ended listed Order kept chosen w on end in
    let journal : w.journal ≡ all.steps = all.journal ∙ ap (λ es. es ++ all.steps) empty in
    let agree : AgreeWith (map (λ r. r.summary) reduced) w.state = subst (λ ss. AgreeWith ss w.state) is all.agree in
    record {
      face = all.face;
      agree = agree;
      steps = subst (λ es. list_all (λ e. is_step_of Order e.event) es ≡ true) (sym journal) all.of_phase;
      replays =
          subst (λ f. replay f (map (λ r. r.summary) reduced) start w.journal ≡ Some w.state) all.face
          (agree_alike w.face w.state w.journal (map (λ r. r.summary) reduced) j agree);
    }

-- no stop
pub none_of : (o : Option SharedCycle) → is_some o ≡ false → o ≡ None
none_of None h = refl
none_of (Some t) h = absurd (cc)

-- so the phase is done
pub then_done : {D : Type 0} (o : Option SharedCycle) → is_some o ≡ false → (is_some o ≡ true) ⊎ D → D
then_done o none (inl some) = absurd (false≢true (sym none ∙ some))
then_done o none (inr done) = done

-- with the reduced parts of the local problems
pub forward_of : (answers : ℕ → ℕ → ℕ → Type 0) (face : InterfaceView) (locals : List LocalView) (reduced : List ReducedView) (f : Forward)
    → AreReducedFrom answers locals reduced → IsForward face reduced f → Came answers face locals f
forward_of answers face locals reduced (Whole parts v) from (is, order, done, going) =
    (subst (AreReducedFrom answers locals) (sym is) from, subst (λ rs. HasOrder face rs v) (sym is) order, done, going)
forward_of answers face locals reduced (PrivateConflict agent walk) from never = absurd never
forward_of answers face locals reduced (Stopped parts v) from (is, order, stopped) =
    (subst (AreReducedFrom answers locals) (sym is) from, subst (λ rs. HasOrder face rs v) (sym is) order, stopped)

module _ (answers : ℕ → ℕ → ℕ → Type 0) (face : InterfaceView) (locals : List LocalView) where
  -- the graph stands for the network
  stands : (net : Net) → ArePartsOf net face locals → (reduced : List ReducedView) (v : SharedView) → AreReducedFrom answers locals reduced
      → HasOrder face reduced v → StandsFor net v
  stands net parts reduced v from order = record {
    network = parts.network;
    face = order.face ∙ parts.face;
    summaries = map (λ r. r.summary) reduced;
    right = right answers net face locals parts reduced from;
    replays = subst (λ f. replay f (map (λ r. r.summary) reduced) start v.journal ≡ Some v.state) parts.face order.replays;
  }

  said : (net : Net) → ArePartsOf net face locals → (reduced : List ReducedView) (v : SharedView) → AreReducedFrom answers locals reduced
      → HasOrder face reduced v → IsVerdictOn net v
  said net parts reduced v from order =
      let s = stands net parts reduced v from order in verdict v net s.summaries s.network s.face s.right s.replays

  -- the agent of an own conflict, and that it has one
  conflict_there : (net : Net) → ArePartsOf net face locals → (agent : ℕ) (walk : List ℕ) → IsLeastConflict locals agent walk
      → (agent < length net.agents) × IsOwnConflict net agent walk
  conflict_there net parts agent walk h =
      let low = slice_get_within locals agent h.local h.there in
      let len = parts.one_each in
      let is : h.local ≡ local_of net agent = parts.each agent h.local h.there in
      let of_agent : h.local.agent ≡ agent = ap (λ (v : LocalView). v.agent) is in (
        subst (λ n. agent < n) len low,
        subst (λ a. IsOwnConflict net a walk) of_agent
            (h.conflict.cycle net parts.network (is ∙ ap (local_of net) (sym of_agent))),
      )

  pub conflict_is : (f : Forward) → Came answers face locals f
      → OfParts face locals (λ net. is_conflict f ≡ true ↔ ((a : ℕ) × (a < length net.agents) × HasOwnConflict net a))
  conflict_is (Whole parts v) h net p =
      (λ is. absurd (false≢true is), λ some. absurd (none_conflicts answers net face locals p parts.items h.0 some.0 some.1 some.2))
  conflict_is (PrivateConflict agent walk) h net p =
      (let there = conflict_there net p agent.0 walk h in (λ is. (agent.0, there.0, (walk, there.1)), λ some. refl))
  conflict_is (Stopped parts v) h net p =
      (λ is. absurd (false≢true is), λ some. absurd (none_conflicts answers net face locals p parts.items h.0 some.0 some.1 some.2))

  pub least_is : (f : Forward) → Came answers face locals f
      → IfConflict (λ agent walk. OfParts face locals (λ net. (a : ℕ) → a < agent → HasOwnConflict net a → ⊥)) f
  least_is (Whole parts v) h = tt
  least_is (PrivateConflict agent walk) h = λ net p a less conflict.
      let there = conflict_there net p agent.0 walk h in
      let low : a < length net.agents = omega (arith, there.0) in
      h.before a (local_of net a) less (local_at net face locals p a low) net p.network refl conflict
  least_is (Stopped parts v) h = tt

  pub cycle_is : (f : Forward) → Came answers face locals f
      → IfConflict (λ agent walk. OfParts face locals (λ net. (agent < length net.agents) × IsOwnConflict net agent walk)) f
  cycle_is (Whole parts v) h = tt
  cycle_is (PrivateConflict agent walk) h = λ net p. conflict_there net p agent.0 walk h
  cycle_is (Stopped parts v) h = tt

  pub normal_is : (f : Forward) → Came answers face locals f → IfConflict (λ agent walk. IsNormal walk) f
  normal_is (Whole parts v) h = tt
  normal_is (PrivateConflict agent walk) h = h.conflict.normal
  normal_is (Stopped parts v) h = tt

  pub stopped_is : (f : Forward) → Came answers face locals f
      → OfParts face locals (λ net. is_stopped f ≡ true
      ↔ (((a : ℕ) → a < length net.agents → HasOwnConflict net a → ⊥) × (IsConsistent (point_count net) (arcs_of net) → ⊥)))
  stopped_is (Whole parts v) h net p =
      (λ is. absurd (false≢true is), λ both. absurd (both.1 ((said net p parts.items v h.0 h.1).whole h.2.0 h.2.1)))
  stopped_is (PrivateConflict agent walk) h net p =
      (let there = conflict_there net p agent.0 walk h in (λ is. absurd (false≢true is), λ both. absurd (both.0 agent.0 there.0 (walk, there.1))))
  stopped_is (Stopped parts v) h net p =
      (λ is. (none_conflicts answers net face locals p parts.items h.0, (said net p parts.items v h.0 h.1).stops h.2), λ both. refl)

  pub whole_is : (f : Forward) → Came answers face locals f → OfParts face locals (λ net. is_whole f ≡ true ↔ IsConsistent (point_count net) (arcs_of net))
  whole_is (Whole parts v) h net p = (λ is. (said net p parts.items v h.0 h.1).whole h.2.0 h.2.1, λ consistent. refl)
  whole_is (PrivateConflict agent walk) h net p =
      (let there = conflict_there net p agent.0 walk h in
      (λ is. absurd (false≢true is), λ consistent. absurd (conflict_excludes net agent.0 (walk, there.1) consistent)))
  whole_is (Stopped parts v) h net p =
      (λ is. absurd (false≢true is), λ consistent. absurd ((said net p parts.items v h.0 h.1).stops h.2 consistent))

  pub reduced_is : (f : Forward) → Came answers face locals f → IfReduced (λ reduced shared. AreReducedFrom answers locals reduced) f
  reduced_is (Whole parts v) h = h.0
  reduced_is (PrivateConflict agent walk) h = tt
  reduced_is (Stopped parts v) h = h.0

  pub stands_is : (f : Forward) → Came answers face locals f → IfReduced (λ reduced shared. OfParts face locals (λ net. StandsFor net shared)) f
  stands_is (Whole parts v) h = λ net p. stands net p parts.items v h.0 h.1
  stands_is (PrivateConflict agent walk) h = tt
  stands_is (Stopped parts v) h = λ net p. stands net p parts.items v h.0 h.1

  pub face_is : (f : Forward) → Came answers face locals f → IfReduced (λ reduced shared. shared.face ≡ face) f
  face_is (Whole parts v) h = h.1.face
  face_is (PrivateConflict agent walk) h = tt
  face_is (Stopped parts v) h = h.1.face

  pub published_is : (f : Forward) → Came answers face locals f
      → IfReduced (λ reduced shared. AgreeWith (map (λ r. r.summary) reduced) shared.state) f
  published_is (Whole parts v) h = h.1.agree
  published_is (PrivateConflict agent walk) h = tt
  published_is (Stopped parts v) h = h.1.agree

  pub stop_is : (f : Forward) → Came answers face locals f → IfStopped (λ reduced shared. is_some shared.state.stop ≡ true) f
  stop_is (Whole parts v) h = tt
  stop_is (PrivateConflict agent walk) h = tt
  stop_is (Stopped parts v) h = h.2

  pub done_is : (f : Forward) → Came answers face locals f → IfWhole (λ reduced shared. IsDone shared.face shared.state Order) f
  done_is (Whole parts v) h = h.2
  done_is (PrivateConflict agent walk) h = tt
  done_is (Stopped parts v) h = tt

  pub steps_are : (f : Forward) → Came answers face locals f
      → IfReduced (λ reduced shared. list_all (λ e. is_step_of Order e.event) shared.journal ≡ true) f
  steps_are (Whole parts v) h = h.1.steps
  steps_are (PrivateConflict agent walk) h = tt
  steps_are (Stopped parts v) h = h.1.steps
