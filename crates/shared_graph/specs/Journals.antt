-- Steps with their journal, and what they say of a network: is_step_of, StandsFor, OfStanding, IsEliminatedBy, is_before_times,
-- IsVerdictOn, IsApplied, IsReplayed, IfWhole, IfIllegal, rank_of, IsLeastStep, AreLeastSteps, IsDone, IsReady, AgreeWith, IsFinished, IsPrefix, Continues.
use Rattle.std.specs.Prelude.{◌≡◌, ℕ, ◌+◌, ◌≤◌, List, [], ◌∷◌, ◌++◌, true, Bool, false, ◌||◌, Some, None, is_some, IfSome}
use Rattle.stn_model.specs.Limits.{most_agents}
use Rattle.stn_model.specs.Net.{Net, arcs_of, point_count}
use Rattle.stn_model.specs.Valid.{IsNetwork}
use Rattle.stn_model.specs.Schedules.{IsConsistent, IsLeastBound}
use Rattle.stn_model.specs.declared.ids.PointId.{PointId}
use Rattle.stn_walk.specs.Eliminations.{is_in}
use Rattle.shared_graph.specs.declared.events.By.{By}
use Rattle.shared_graph.specs.declared.events.By.TheVariants.{Joiner}
use Rattle.shared_graph.specs.declared.events.Eliminated.{Eliminated}
use Rattle.shared_graph.specs.declared.events.Eliminated.TheVariants.{Clear, Stopped}
use Rattle.shared_graph.specs.declared.events.End.{End}
use Rattle.shared_graph.specs.declared.events.Entry.{Entry}
use Rattle.shared_graph.specs.declared.events.Event.{Event}
use Rattle.shared_graph.specs.declared.events.Event.TheVariants.{Publish, Eliminate, Stop, Revisit, Assign, Widen}
use Rattle.shared_graph.specs.declared.events.Illegal.{Illegal}
use Rattle.shared_graph.specs.declared.events.Phase.{Phase}
use Rattle.shared_graph.specs.declared.events.Phase.TheVariants.{Order, Reverse, Assign as AssignPhase, Widen as WidenPhase}
use Rattle.shared_graph.specs.declared.replay.Replay.{Replay}
use Rattle.shared_graph.specs.declared.replay.Replay.TheVariants.{Whole, IllegalAt}
use Rattle.shared_graph.specs.Histories.{SharedView}
use Rattle.shared_graph.specs.Interfaces.{InterfaceView, Summary, is_listed, interface_of}
use Rattle.shared_graph.specs.Publications.{entries_in}
use Rattle.shared_graph.specs.Refusals.{refusal}
use Rattle.shared_graph.specs.States.{State, start, is_published}
use Rattle.shared_graph.specs.Replays.{summary_of, replay, after, fault_of, AreRight}
use Rattle.shared_graph.specs.Together.{IsAllPublished, IsWhole}
use Rattle.shared_graph.specs.Weights.{least_negative, final}
use Rattle.shared_graph.specs.Windows.{is_assigned, is_widened}

-- which events are steps of a phase
abbrev pub is_step_of : Phase → Event → Bool
is_step_of Order (Publish a) = true
is_step_of Order (Eliminate k) = true
is_step_of Order (Stop k i) = true
is_step_of Order (Revisit k) = false
is_step_of Order (Assign k v) = false
is_step_of Order (Widen k end) = false
is_step_of Reverse (Publish a) = false
is_step_of Reverse (Eliminate k) = false
is_step_of Reverse (Stop k i) = false
is_step_of Reverse (Revisit k) = true
is_step_of Reverse (Assign k v) = false
is_step_of Reverse (Widen k end) = false
is_step_of AssignPhase (Publish a) = false
is_step_of AssignPhase (Eliminate k) = false
is_step_of AssignPhase (Stop k i) = false
is_step_of AssignPhase (Revisit k) = false
is_step_of AssignPhase (Assign k v) = true
is_step_of AssignPhase (Widen k end) = false
is_step_of WidenPhase (Publish a) = false
is_step_of WidenPhase (Eliminate k) = false
is_step_of WidenPhase (Stop k i) = false
is_step_of WidenPhase (Revisit k) = false
is_step_of WidenPhase (Assign k v) = false
is_step_of WidenPhase (Widen k end) = true

-- the state stands for the network: its interface is the network's, its journal replays with the network's right summaries
pub record StandsFor (net : Net) (v : SharedView) : Type 0 where
  pub network : IsNetwork net
  pub face : v.face ≡ interface_of net
  pub summaries : List Summary
  pub right : AreRight net summaries
  pub replays : replay (interface_of net) summaries start v.journal ≡ Some v.state

-- what holds for every network for which the state stands
abbrev pub OfStanding : SharedView → (Net → Type 0) → Type 0
OfStanding v holds = (net : Net) → StandsFor net v → holds net

-- what an elimination by this maker leaves: the point is in the order, or the stop is entered exactly where it was refused for a negative sum, with
-- that point; the journal has that one entry more
abbrev pub IsEliminatedBy : By → PointId → SharedView → SharedView → Eliminated → Type 0
IsEliminatedBy by k old new Clear =
    (new.face ≡ old.face) × (least_negative old.face old.state k.0 ≡ None) × (new.state ≡ record old.state { order = k.0 ∷ old.state.order })
    × (new.journal ≡ old.journal ++ record { by = by; event = Eliminate k } ∷ [])
IsEliminatedBy by k old new (Stopped c) =
    (new.face ≡ old.face) × (c.point ≡ k) × (least_negative old.face old.state k.0 ≡ Some c.other.0) × (new.state ≡ record old.state { stop = Some c })
    × (new.journal ≡ old.journal ++ record { by = by; event = Stop k c.other } ∷ [])

-- whether a step of this kind can be made before points have times
abbrev pub is_before_times : Event → Bool
is_before_times e = is_step_of Order e || is_step_of Reverse e

-- what the replay of a network's journal says of the network: a stop that no schedule satisfies it, a whole order without a stop that some schedule
-- does; and final cells are least bounds
pub record IsVerdictOn (net : Net) (v : SharedView) : Type 0 where
  pub stops : is_some v.state.stop ≡ true → IsConsistent (point_count net) (arcs_of net) → ⊥
  pub whole : IsAllPublished v.face v.state → IsWhole v.face v.state → IsConsistent (point_count net) (arcs_of net)
  pub finals : (i j : ℕ) → IfSome (final v.face v.state i j) (λ b. IsLeastBound (point_count net) (arcs_of net) i j b)

-- each entry is legal in its place, and this is the graph after the last one
abbrev pub IsApplied : InterfaceView → List Summary → List Entry → SharedView → Type 0
IsApplied face summaries entries v = (v.face ≡ face) × (v.journal ≡ entries) × (replay face summaries start entries ≡ Some v.state)

-- or this is the first illegal one, with its cause
abbrev pub IsReplayed : InterfaceView → List Summary → List Entry → Replay → Type 0
IsReplayed face summaries entries (Whole v) = IsApplied face summaries entries v
IsReplayed face summaries entries (IllegalAt place cause) =
    fault_of face summaries start 0 entries ≡ Some (record { place = place; cause = cause })

-- and in the terms of networks
abbrev pub IfWhole : (SharedView → Type 0) → Replay → Type 0
IfWhole holds (Whole v) = holds v
IfWhole holds (IllegalAt place cause) = Unit {0}

abbrev pub IfIllegal : (ℕ → Illegal → Type 0) → Replay → Type 0
IfIllegal holds (Whole v) = Unit {0}
IfIllegal holds (IllegalAt place cause) = holds place cause

-- the number by which the joiner's steps of a phase go: agents before points
abbrev pub rank_of : Event → ℕ
rank_of (Publish a) = a.0
rank_of (Eliminate k) = most_agents + k.0
rank_of (Stop k i) = most_agents + k.0
rank_of (Revisit k) = k.0
rank_of (Assign k v) = k.0
rank_of (Widen k end) = k.0

-- a legal step of the phase by the joiner, the least of those that are
pub record IsLeastStep (face : InterfaceView) (s : State) (phase : Phase) (e : Entry) : Type 0 where
  pub joiner : e.by ≡ Joiner
  pub step : is_step_of phase e.event ≡ true
  pub legal : refusal face s e ≡ None
  pub least : (f : Event) → is_step_of phase f ≡ true → refusal face s (record { by = Joiner; event = f }) ≡ None → rank_of e.event ≤ rank_of f

-- steps that each are the least in their place, from one state to another
abbrev pub AreLeastSteps : InterfaceView → List Summary → Phase → State → List Entry → State → Type 0
AreLeastSteps face summaries phase s [] t = s ≡ t
AreLeastSteps face summaries phase s (e ∷ es) t =
    IsLeastStep face s phase e × AreLeastSteps face summaries phase (after face summaries s e.event) es t

-- all of a phase is done
abbrev pub IsDone : InterfaceView → State → Phase → Type 0
IsDone face s Order = IsAllPublished face s × IsWhole face s
IsDone face s Reverse = (p : ℕ) → is_listed face p ≡ true → is_in s.revisited p ≡ true
IsDone face s AssignPhase = (p : ℕ) → is_listed face p ≡ true → is_assigned s p ≡ true
IsDone face s WidenPhase = (p : ℕ) (end : End) → is_listed face p ≡ true → is_widened s p end ≡ true

-- all phases before it are
abbrev pub IsReady : InterfaceView → State → Phase → Type 0
IsReady face s Order = Unit {0}
IsReady face s Reverse = IsDone face s Order
IsReady face s AssignPhase = IsDone face s Order × IsDone face s Reverse
IsReady face s WidenPhase = IsDone face s Order × IsDone face s Reverse × IsDone face s AssignPhase

-- each published summary is the listed one
abbrev pub AgreeWith : List Summary → State → Type 0
AgreeWith summaries s = (a : ℕ) → is_published s a ≡ true → entries_in s.published a ≡ summary_of summaries a

-- what the joiner's steps leave: they are the least ones of the phase, each in its place
pub record IsFinished (summaries : List Summary) (phase : Phase) (old new : SharedView) : Type 0 where
  pub face : new.face ≡ old.face
  pub steps : List Entry
  pub least : AreLeastSteps old.face summaries phase old.state steps new.state
  pub journal : new.journal ≡ old.journal ++ steps
  pub agree : AgreeWith summaries new.state

-- one list goes on another
abbrev pub IsPrefix : List Entry → List Entry → Type 0
IsPrefix front all = (back : List Entry) × (all ≡ front ++ back)

-- the graph is over the interface, has published only listed summaries, and its journal goes on this one
pub record Continues (face : InterfaceView) (summaries : List Summary) (front : List Entry) (v : SharedView) : Type 0 where
  pub same : v.face ≡ face
  pub agree : AgreeWith summaries v.state
  pub prefix : IsPrefix front v.journal
