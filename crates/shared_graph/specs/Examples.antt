-- Two agents with a shared point each, and an external arc from one to the other: example_face, entry_from, example_summaries, by_agent, by_joiner,
-- example_front, example_order, ExamplesHold.
use Rattle.std.specs.Prelude.{◌≡◌, ℕ, ℤ, pos, neg_ℤ, true, false, List, [], ◌∷◌, Some}
use Rattle.std.specs.Option.{option_map}
use Rattle.stn_model.specs.declared.ids.Lean.TheVariants.{Middle, Late}
use Rattle.elim_step.specs.declared.summary.SummaryEntry.{SummaryEntry}
use Rattle.shared_graph.specs.declared.events.Entry.{Entry}
use Rattle.shared_graph.specs.declared.events.By.TheVariants.{Agent, Joiner}
use Rattle.shared_graph.specs.declared.events.Event.{Event}
use Rattle.shared_graph.specs.declared.events.Event.TheVariants.{Publish, Eliminate, Stop, Revisit, Assign, Widen}
use Rattle.shared_graph.specs.declared.events.End.TheVariants.{Low, High}
use Rattle.shared_graph.specs.declared.events.Illegal.TheVariants.{NotShared, WrongValue}
use Rattle.shared_graph.specs.Interfaces.{InterfaceView, Summary}
use Rattle.shared_graph.specs.States.{agent_id, point_id, start}
use Rattle.shared_graph.specs.Weights.{final}
use Rattle.shared_graph.specs.Refusals.{negative, not_published, order_open, neighbour_first}
use Rattle.shared_graph.specs.Replays.{replay, fault_of}

-- points 1 and 2, and an arc of this bound from 1 to 2
abbrev pub example_face : ℤ → InterfaceView
example_face bound = record {
  leans = Middle ∷ Late ∷ [];
  points = record { point = 1; owner = 0 } ∷ record { point = 2; owner = 1 } ∷ [];
  externals = record { from = point_id 1; to = point_id 2; bound = bound } ∷ [];
  horizon = pos 10;
}

abbrev pub entry_from : ℕ → ℕ → ℤ → SummaryEntry
entry_from i j w = record { from = point_id i; to = point_id j; weight = w }

-- no own arcs but those of the horizon
abbrev pub example_summaries : List Summary
example_summaries =
    (entry_from 0 1 (pos 10) ∷ entry_from 1 0 (pos 0) ∷ []) ∷ (entry_from 0 2 (pos 10) ∷ entry_from 2 0 (pos 0) ∷ []) ∷ []

abbrev pub by_agent : ℕ → Event → Entry
by_agent a event = record { by = Agent (agent_id a); event = event }

abbrev pub by_joiner : Event → Entry
by_joiner event = record { by = Joiner; event = event }

-- both publish, and point 1 is eliminated
abbrev pub example_front : List Entry → List Entry
example_front rest =
    by_agent 0 (Publish (agent_id 0)) ∷ by_agent 0 (Eliminate (point_id 1)) ∷ by_joiner (Publish (agent_id 1)) ∷ rest

-- and point 2 too, and both are revisited
abbrev pub example_order : List Entry → List Entry
example_order rest =
    example_front (by_agent 1 (Eliminate (point_id 2)) ∷ by_joiner (Revisit (point_id 2)) ∷ by_agent 0 (Revisit (point_id 1)) ∷ rest)

-- point 2, of the late agent, takes 10; the window of point 1 is then from 10 - 5 to 10, of which the middle is 7
abbrev pub example_times : List Entry → List Entry
example_times rest = example_order (by_agent 1 (Assign (point_id 2) (pos 10)) ∷ by_agent 1 (Assign (point_id 1) (pos 7)) ∷ rest)

-- with the bound 5 the final cell from 1 to 2 is 5; with -11 the second elimination stops at z; some faults; and with the bound 5 times, ends that
-- are widened as far as the others allow, and faults of these steps
abbrev pub ExamplesHold : Type 0
ExamplesHold =
    (option_map (λ s. final (example_face (pos 5)) s 1 2) (replay (example_face (pos 5)) example_summaries start (example_order [])) ≡ Some (Some (pos 5)))
    × (option_map (λ s. s.stop)
    (replay (example_face (neg_ℤ (pos 11))) example_summaries start (example_front (by_agent 1 (Stop (point_id 2) (point_id 0)) ∷ [])))
    ≡ Some (Some (record { point = point_id 2; other = point_id 0 })))
    × (fault_of (example_face (neg_ℤ (pos 11))) example_summaries start 0 (example_front (by_agent 1 (Eliminate (point_id 2)) ∷ []))
    ≡ Some (record { place = 3; cause = negative 0 }))
    × (fault_of (example_face (pos 5)) example_summaries start 0 (by_joiner (Eliminate (point_id 1)) ∷ [])
    ≡ Some (record { place = 0; cause = not_published 0 }))
    × (fault_of (example_face (pos 5)) example_summaries start 0
    (example_front (by_agent 1 (Eliminate (point_id 2)) ∷ by_joiner (Revisit (point_id 1)) ∷ []))
    ≡ Some (record { place = 4; cause = neighbour_first 2 }))
    × (option_map (λ s. s.assigned)
    (replay (example_face (pos 5)) example_summaries start
    (example_times (by_agent 0 (Widen (point_id 1) Low) ∷ by_agent 0 (Widen (point_id 2) Low) ∷ by_joiner (Widen (point_id 1) High) ∷ [])))
    ≡ Some (record { point = 1; value = pos 7; lo = pos 5; hi = pos 10; low_widened = true; high_widened = true }
    ∷ record { point = 2; value = pos 10; lo = pos 0; hi = pos 10; low_widened = true; high_widened = false } ∷ []))
    × (fault_of (example_face (pos 5)) example_summaries start 0 (example_times (by_agent 0 (Widen (point_id 3) Low) ∷ []))
    ≡ Some (record { place = 8; cause = NotShared }))
    × (fault_of (example_face (pos 5)) example_summaries start 0 (example_order (by_agent 0 (Assign (point_id 1) (pos 7)) ∷ []))
    ≡ Some (record { place = 6; cause = neighbour_first 2 }))
    × (fault_of (example_face (pos 5)) example_summaries start 0
    (example_order (by_agent 0 (Assign (point_id 2) (pos 10)) ∷ by_agent 0 (Assign (point_id 1) (pos 8)) ∷ []))
    ≡ Some (record { place = 7; cause = WrongValue (pos 7) (pos 8) }))
    × (fault_of (example_face (pos 5)) example_summaries start 0
    (example_order (by_agent 0 (Assign (point_id 2) (pos 10)) ∷ by_agent 0 (Widen (point_id 2) Low) ∷ []))
    ≡ Some (record { place = 7; cause = order_open 1 }))
