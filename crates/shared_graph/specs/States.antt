-- The plain state of a shared graph: agent_id, point_id, Published, Assigned, State, start, is_published, is_revisited, agent_pairs, agent_arcs,
-- arcs_after, meeting_of.
use Rattle.std.specs.Prelude.{ℕ, ℤ, Bool, false, ◌||◌, ◌==◌, nat_eq, List, [], ◌∷◌, ◌++◌, map, Option, Some, None, if◌then◌else◌}
use Rattle.std.specs.Option.{option_eq}
use Rattle.stn_model.specs.declared.ids.AgentId.{AgentId}
use Rattle.stn_model.specs.declared.ids.PointId.{PointId}
use Rattle.stn_model.specs.declared.ids.Constraint.{Constraint}
use Rattle.stn_model.specs.Net.{horizon_pair}
use Rattle.stn_walk.specs.Eliminations.{is_in}
use Rattle.meeting_arcs.specs.Meeting.{entry_arc}
use Rattle.elim_step.specs.declared.summary.SummaryEntry.{SummaryEntry}
use Rattle.elim_step.specs.Summaries.{entry_of}
use Rattle.shared_graph.specs.declared.events.SharedCycle.{SharedCycle}
use Rattle.shared_graph.specs.Interfaces.{InterfaceView, Summary, points_of, owner_in}

-- an agent and a point, by number
abbrev pub agent_id : ℕ → AgentId
agent_id a = record { 0 = a }

abbrev pub point_id : ℕ → PointId
point_id p = record { 0 = p }

-- an agent that has published, with its summary
pub record Published : Type 0 where
  pub agent : ℕ
  pub entries : Summary

-- a point that has its time, with the ends of its window, and which of them were widened
pub record Assigned : Type 0 where
  pub point : ℕ
  pub value : ℤ
  pub lo : ℤ
  pub hi : ℤ
  pub low_widened : Bool
  pub high_widened : Bool

-- the published agents, the eliminated, revisited and assigned points, each list with the last one first, and a stop
pub record State : Type 0 where
  pub published : List Published
  pub order : List ℕ
  pub stop : Option SharedCycle
  pub revisited : List ℕ
  pub assigned : List Assigned

-- nothing is done
abbrev pub start : State
start = record { published = []; order = []; stop = None; revisited = []; assigned = [] }

-- whether an agent is in a list of published ones
abbrev pub published_in : List Published → ℕ → Bool
published_in [] agent = false
published_in (p ∷ ps) agent = published_in ps agent || (agent == p.agent)

abbrev pub is_published : State → ℕ → Bool
is_published s agent = published_in s.published agent

-- z counts as revisited
abbrev pub is_revisited : State → ℕ → Bool
is_revisited s p = is_in s.revisited p || (p == 0)

-- the horizon arcs of those of these points that are the agent's
abbrev pub agent_pairs : InterfaceView → ℕ → List ℕ → List Constraint
agent_pairs face agent [] = []
agent_pairs face agent (p ∷ ps) =
    (if option_eq nat_eq (owner_in face p) (Some agent) then horizon_pair face.horizon p else []) ++ agent_pairs face agent ps

-- an entry of a summary as an arc
abbrev pub summary_arc : SummaryEntry → Constraint
summary_arc e = entry_arc (entry_of e)

-- the arcs that an agent publishes: the horizon arcs of its shared points, and its summary
abbrev pub agent_arcs : InterfaceView → Published → List Constraint
agent_arcs face p = agent_pairs face p.agent (points_of face) ++ map summary_arc p.entries

-- the external arcs and those of published agents
abbrev pub arcs_after : InterfaceView → List Published → List Constraint
arcs_after face [] = face.externals
arcs_after face (p ∷ ps) = arcs_after face ps ++ agent_arcs face p

-- the meeting arcs of a state
abbrev pub meeting_of : InterfaceView → State → List Constraint
meeting_of face s = arcs_after face s.published
