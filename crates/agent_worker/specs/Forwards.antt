-- What the phase that finds the order comes to: ArePartsOf, OfParts, is_conflict, is_stopped, is_whole, IfConflict, IfStopped, IfWhole, IfReduced,
-- HasOrder, IsForward, Came.
use Rattle.std.specs.Prelude.{◌≡◌, ℕ, List, Bool, true, false, length, map, slice_get, Some, None, is_some}
use Rattle.std.specs.List.{list_all}
use Rattle.stn_model.specs.Net.{Net}
use Rattle.stn_model.specs.Valid.{IsNetwork}
use Rattle.private_elim.specs.Locals.{LocalView, local_of}
use Rattle.private_elim.specs.ReducedViews.{ReducedView}
use Rattle.shared_graph.specs.declared.events.Phase.TheVariants.{Order}
use Rattle.shared_graph.specs.Histories.{SharedView}
use Rattle.shared_graph.specs.Interfaces.{InterfaceView, interface_of}
use Rattle.shared_graph.specs.Journals.{AgreeWith, IsDone, is_step_of}
use Rattle.shared_graph.specs.Replays.{replay}
use Rattle.shared_graph.specs.States.{start}
use Rattle.agent_worker.specs.Works.{AreReducedFrom, IsLeastConflict}
use Rattle.agent_worker.specs.declared.forward.Forward.{Forward}
use Rattle.agent_worker.specs.declared.forward.Forward.TheVariants.{Whole, PrivateConflict, Stopped}

-- the interface of a network, and the local problems of its agents by number
pub record ArePartsOf (net : Net) (interface : InterfaceView) (locals : List LocalView) : Type 0 where
  pub network : IsNetwork net
  pub face : interface ≡ interface_of net
  pub one_each : length locals ≡ length net.agents
  pub each : (a : ℕ) (v : LocalView) → slice_get locals a ≡ Some v → v ≡ local_of net a

-- what holds of every network of which these are the interface and the local problems
abbrev pub OfParts : InterfaceView → List LocalView → (Net → Type 0) → Type 0
OfParts face locals holds = (net : Net) → ArePartsOf net face locals → holds net

-- which answer it is
abbrev pub is_conflict : Forward → Bool
is_conflict (Whole reduced shared) = false
is_conflict (PrivateConflict agent walk) = true
is_conflict (Stopped reduced shared) = false

abbrev pub is_stopped : Forward → Bool
is_stopped (Whole reduced shared) = false
is_stopped (PrivateConflict agent walk) = false
is_stopped (Stopped reduced shared) = true

abbrev pub is_whole : Forward → Bool
is_whole (Whole reduced shared) = true
is_whole (PrivateConflict agent walk) = false
is_whole (Stopped reduced shared) = false

-- what each answer shows
abbrev pub IfConflict : (ℕ → List ℕ → Type 0) → Forward → Type 0
IfConflict shows (Whole reduced shared) = Unit {0}
IfConflict shows (PrivateConflict agent walk) = shows agent.0 walk
IfConflict shows (Stopped reduced shared) = Unit {0}

abbrev pub IfStopped : (List ReducedView → SharedView → Type 0) → Forward → Type 0
IfStopped shows (Whole reduced shared) = Unit {0}
IfStopped shows (PrivateConflict agent walk) = Unit {0}
IfStopped shows (Stopped reduced shared) = shows reduced.items shared

abbrev pub IfWhole : (List ReducedView → SharedView → Type 0) → Forward → Type 0
IfWhole shows (Whole reduced shared) = shows reduced.items shared
IfWhole shows (PrivateConflict agent walk) = Unit {0}
IfWhole shows (Stopped reduced shared) = Unit {0}

abbrev pub IfReduced : (List ReducedView → SharedView → Type 0) → Forward → Type 0
IfReduced shows (Whole reduced shared) = shows reduced.items shared
IfReduced shows (PrivateConflict agent walk) = Unit {0}
IfReduced shows (Stopped reduced shared) = shows reduced.items shared

-- a graph over the interface, whose published summaries are those of the reduced parts, and whose journal of steps of this phase replays with them
pub record HasOrder (interface : InterfaceView) (reduced : List ReducedView) (v : SharedView) : Type 0 where
  pub face : v.face ≡ interface
  pub agree : AgreeWith (map (λ r. r.summary) reduced) v.state
  pub steps : list_all (λ e. is_step_of Order e.event) v.journal ≡ true
  pub replays : replay interface (map (λ r. r.summary) reduced) start v.journal ≡ Some v.state

-- all is eliminated, or a stop is entered
abbrev pub IsForward : InterfaceView → List ReducedView → Forward → Type 0
IsForward face reduced (Whole parts v) = (parts.items ≡ reduced) × HasOrder face reduced v × IsDone v.face v.state Order × (v.state.stop ≡ None)
IsForward face reduced (PrivateConflict agent walk) = ⊥
IsForward face reduced (Stopped parts v) = (parts.items ≡ reduced) × HasOrder face reduced v × (is_some v.state.stop ≡ true)

-- the same with the reduced parts of the local problems; or an own conflict of the least agent that has one
abbrev pub Came : (ℕ → ℕ → ℕ → Type 0) → InterfaceView → List LocalView → Forward → Type 0
Came answers interface locals (Whole parts v) =
    AreReducedFrom answers locals parts.items × HasOrder interface parts.items v × IsDone v.face v.state Order × (v.state.stop ≡ None)
Came answers interface locals (PrivateConflict agent walk) = IsLeastConflict locals agent.0 walk
Came answers interface locals (Stopped parts v) =
    AreReducedFrom answers locals parts.items × HasOrder interface parts.items v × (is_some v.state.stop ≡ true)
