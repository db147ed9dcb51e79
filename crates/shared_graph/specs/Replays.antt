-- What entries do to a state: summary_of, plain_entries, AreRight, after, replay, Fault, first_fault, fault_of.
use Rattle.std.specs.Prelude.{ℕ, suc, map, false, List, [], ◌∷◌, slice_index_or, Option, Some, None, is_some, if◌then◌else◌}
use Rattle.stn_model.specs.Net.{Net}
use Rattle.stn_model.specs.Summaries.{Entry as PlainEntry}
use Rattle.meeting_arcs.specs.Meeting.{AreSummaries}
use Rattle.elim_step.specs.Summaries.{entry_of}
use Rattle.shared_graph.specs.declared.events.Event.{Event}
use Rattle.shared_graph.specs.declared.events.Event.TheVariants.{Publish, Eliminate, Stop, Revisit, Assign, Widen}
use Rattle.shared_graph.specs.declared.events.Entry.{Entry}
use Rattle.shared_graph.specs.declared.events.Illegal.{Illegal}
use Rattle.shared_graph.specs.Interfaces.{InterfaceView, Summary}
use Rattle.shared_graph.specs.States.{State}
use Rattle.shared_graph.specs.Refusals.{refusal}
use Rattle.shared_graph.specs.Windows.{widened}

-- the listed summary of an agent
abbrev pub summary_of : List Summary → ℕ → Summary
summary_of summaries a = slice_index_or summaries a []

-- a summary by numbers of points
abbrev pub plain_entries : Summary → List PlainEntry
plain_entries entries = map entry_of entries

-- one right summary for each agent
abbrev pub AreRight : Net → List Summary → Type 0
AreRight net summaries = AreSummaries net (map plain_entries summaries)

-- the state after an event
abbrev pub after : InterfaceView → List Summary → State → Event → State
after face summaries s (Publish a) = record s { published = record { agent = a.0; entries = summary_of summaries a.0 } ∷ s.published }
after face summaries s (Eliminate k) = record s { order = k.0 ∷ s.order }
after face summaries s (Stop k i) = record s { stop = Some (record { point = k; other = i }) }
after face summaries s (Revisit k) = record s { revisited = k.0 ∷ s.revisited }
after face summaries s (Assign k v) =
    record s { assigned = record { point = k.0; value = v; lo = v; hi = v; low_widened = false; high_widened = false } ∷ s.assigned }
after face summaries s (Widen k end) = record s { assigned = widened face s k.0 end }

-- the state after entries, where each is legal in its place
abbrev pub replay : InterfaceView → List Summary → State → List Entry → Option State
replay face summaries s [] = Some s
replay face summaries s (e ∷ es) = if is_some (refusal face s e) then None else replay face summaries (after face summaries s e.event) es

-- an illegal entry, by its place, with the cause
pub record Fault : Type 0 where
  pub place : ℕ
  pub cause : Illegal

-- this entry's fault, or a later one
abbrev pub first_fault : ℕ → Option Illegal → Option Fault → Option Fault
first_fault n None later = later
first_fault n (Some cause) later = Some (record { place = n; cause = cause })

-- the first illegal entry, if there is one; n is the place of the first entry of the list
abbrev pub fault_of : InterfaceView → List Summary → State → ℕ → List Entry → Option Fault
fault_of face summaries s n [] = None
fault_of face summaries s n (e ∷ es) = first_fault n (refusal face s e) (fault_of face summaries (after face summaries s e.event) (suc n) es)
