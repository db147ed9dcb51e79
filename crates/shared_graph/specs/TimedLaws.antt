-- What holds of times and widened ends, and what they say of a network: SettingsHold, StartHoldsTimes, EntriesKeepTimes, ReplaysHoldTimes, IsOpen,
-- WindowsAreOpen, WidestAreThere, IsInside, TimesLieInside, GoesOn, TimesGoOn, BoxesDecouple.
use Rattle.std.specs.Prelude.{◌≡◌, ℕ, ◌<◌, ℤ, neg_ℤ, ◌≤ℤ◌, Bool, true, List, [], length, Some, None}
use Rattle.stn_model.specs.Net.{arcs_of, point_count}
use Rattle.stn_model.specs.Schedules.{Satisfies}
use Rattle.decoupling_facts.specs.Assignments.{IsSetting}
use Rattle.decoupling_facts.specs.Boxes.{IsWidestHigh, IsWidestLow}
use Rattle.decoupling_facts.specs.Decouplings.{IsDecoupling, IsTightIn}
use Rattle.decoupling_facts.specs.LocalNetworks.{decoupled_arcs, joint_times}
use Rattle.shared_graph.specs.declared.events.End.TheVariants.{Low, High}
use Rattle.shared_graph.specs.declared.events.Entry.{Entry}
use Rattle.shared_graph.specs.declared.events.Phase.TheVariants.{Reverse, Assign as AssignPhase}
use Rattle.shared_graph.specs.Histories.{AreFitting}
use Rattle.shared_graph.specs.Interfaces.{InterfaceView, Summary, IsInterface, is_listed, interface_of}
use Rattle.shared_graph.specs.Journals.{IsDone}
use Rattle.shared_graph.specs.Laws.{OfReplays}
use Rattle.shared_graph.specs.Refusals.{refusal}
use Rattle.shared_graph.specs.Replays.{after, replay}
use Rattle.shared_graph.specs.States.{State, Assigned, start}
use Rattle.shared_graph.specs.Timed.{bound_in, setting_in, ends_in, end_of, HoldsTimes, IsNextTimed}
use Rattle.shared_graph.specs.Together.{HoldsTogether}
use Rattle.shared_graph.specs.Weights.{final}
use Rattle.shared_graph.specs.Windows.{assigned_in, value_in, low_in, high_in, is_widened, window_low, window_high, kept_value, widest_low, widest_high}

-- once all shared points are revisited, the cells are such as times and boxes want: final cells are least bounds over the meeting arcs, and z is a
-- later neighbour of each shared point
abbrev pub SettingsHold : Type 0
SettingsHold =
    (face : InterfaceView) → IsInterface face → (s : State) → HoldsTogether face s → IsDone face s Reverse → IsSetting (setting_in face s)

-- a state without times holds times
abbrev pub StartHoldsTimes : Type 0
StartHoldsTimes = (face : InterfaceView) (s : State) → s.assigned ≡ [] → HoldsTimes face s

-- a legal entry keeps a state that does so
abbrev pub EntriesKeepTimes : Type 0
EntriesKeepTimes =
    (face : InterfaceView) (summaries : List Summary) → IsInterface face
    → (s : State) (e : Entry) → HoldsTogether face s → HoldsTimes face s → refusal face s e ≡ None → HoldsTimes face (after face summaries s e.event)

-- so every replayed state does
abbrev pub ReplaysHoldTimes : Type 0
ReplaysHoldTimes =
    (face : InterfaceView) (summaries : List Summary) → IsInterface face → AreFitting face summaries
    → (es : List Entry) (s : State) → replay face summaries start es ≡ Some s → HoldsTimes face s

-- the window of k is there and is not empty, and the time of the rule lies in it
pub record IsOpen (face : InterfaceView) (s : State) (k : ℕ) : Type 0 where
  pub low : ℤ
  pub high : ℤ
  pub kept : ℤ
  pub is_low : window_low face s k ≡ Some low
  pub is_high : window_high face s k ≡ Some high
  pub is_kept : kept_value face s k ≡ Some kept
  pub not_empty : low ≤ℤ high
  pub above : low ≤ℤ kept
  pub below : kept ≤ℤ high

abbrev pub WindowsAreOpen : Type 0
WindowsAreOpen =
    (face : InterfaceView) → IsInterface face → (s : State) → HoldsTogether face s → HoldsTimes face s → (k : ℕ) → IsNextTimed face s k → IsOpen face s k

-- once all shared points have times, the widest ends of each are there, and are the widest that the other ends leave
abbrev pub WidestAreThere : Type 0
WidestAreThere =
    (face : InterfaceView) → IsInterface face → (s : State) → HoldsTogether face s → HoldsTimes face s → IsDone face s AssignPhase
    → (k : ℕ) → is_listed face k ≡ true
    → ((low : ℤ) × (widest_low face s k ≡ Some low) × IsWidestLow (bound_in face s) face.externals (ends_in s).hi k low)
    × ((high : ℤ) × (widest_high face s k ≡ Some high) × IsWidestHigh (bound_in face s) face.externals (ends_in s).lo k high)

-- the time of a point lies in its box, which lies within the final cells with z
pub record IsInside (face : InterfaceView) (s : State) (a : Assigned) : Type 0 where
  pub above : a.lo ≤ℤ a.value
  pub below : a.value ≤ℤ a.hi
  pub low : (b : ℤ) → final face s a.point 0 ≡ Some b → neg_ℤ b ≤ℤ a.lo
  pub high : (b : ℤ) → final face s 0 a.point ≡ Some b → a.hi ≤ℤ b

abbrev pub TimesLieInside : Type 0
TimesLieInside =
    (face : InterfaceView) → IsInterface face → (s : State) → HoldsTimes face s → (k : ℕ) (a : Assigned) → assigned_in s.assigned k ≡ Some a
    → (a.point ≡ k) × IsInside face s a

-- t has the times and the widened ends of s
pub record GoesOn (s t : State) : Type 0 where
  pub values : (p : ℕ) (v : ℤ) → value_in s p ≡ Some v → value_in t p ≡ Some v
  pub lows : (p : ℕ) → is_widened s p Low ≡ true → (is_widened t p Low ≡ true) × (low_in t p ≡ low_in s p)
  pub highs : (p : ℕ) → is_widened s p High ≡ true → (is_widened t p High ≡ true) × (high_in t p ≡ high_in s p)

abbrev pub TimesGoOn : Type 0
TimesGoOn =
    (face : InterfaceView) (summaries : List Summary) (es : List Entry) (s t : State) → replay face summaries s es ≡ Some t → GoesOn s t

-- once all shared points have times, the boxes are a decoupling of the network in which each widened end is tight, so one schedule for each agent, of
-- its decoupled network, together make a schedule of the network
abbrev pub BoxesDecouple : Type 0
BoxesDecouple =
    OfReplays (λ net s. IsDone (interface_of net) s AssignPhase
    → IsDecoupling net (ends_in s)
    × ((k : ℕ) (high : Bool) → is_widened s k (end_of high) ≡ true → IsTightIn net (ends_in s) (k, high))
    × ((schedules : ℕ → List ℤ)
    → ((agent : ℕ) → agent < length net.agents → Satisfies (point_count net) (decoupled_arcs net agent (ends_in s)) (schedules agent))
    → Satisfies (point_count net) (arcs_of net) (joint_times net schedules)))
