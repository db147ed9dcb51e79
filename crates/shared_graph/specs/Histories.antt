-- What contracts see of a shared graph with its journal, and what is true of it: SharedView, AreFitting, IsJournal, unvisited_in.
use Rattle.std.specs.Prelude.{◌≡◌, ℕ, List, Some, not, filter, length}
use Rattle.stn_walk.specs.Eliminations.{is_in}
use Rattle.shared_graph.specs.declared.events.Entry.{Entry}
use Rattle.shared_graph.specs.Interfaces.{InterfaceView, Summary, IsInterface, IsFitting, points_of}
use Rattle.shared_graph.specs.States.{State, start}
use Rattle.shared_graph.specs.Replays.{summary_of, replay}

-- the interface, the plain state and the journal
pub record SharedView : Type 0 where
  pub face : InterfaceView
  pub state : State
  pub journal : List Entry

-- each agent's summary fits it
abbrev pub AreFitting : InterfaceView → List Summary → Type 0
AreFitting face summaries = (a : ℕ) → IsFitting face a (summary_of summaries a)

-- the journal replays to the state, with some summaries that fit
pub record IsJournal (face : InterfaceView) (s : State) (journal : List Entry) : Type 0 where
  pub interface : IsInterface face
  pub summaries : List Summary
  pub one_each : length summaries ≡ length face.leans
  pub fitting : AreFitting face summaries
  pub replays : replay face summaries start journal ≡ Some s

-- how many shared points are not revisited
abbrev pub unvisited_in : InterfaceView → State → ℕ
unvisited_in face s = length (filter (λ p. not (is_in s.revisited p)) (points_of face))
