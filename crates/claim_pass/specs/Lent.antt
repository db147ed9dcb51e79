-- What an agent's worker does to a shared graph that it holds: entry_of, IsPublishedBy, IsPublish, is_own, own_points, candidate_of, candidates_in,
-- IsPicked, IsTaken, IsPickedStep, IsClaim, is_legal_step, IsRevisitedBy, IsLeastBy, IsStep.
use Rattle.std.specs.Prelude.{◌≡◌, ◌≢◌, ℕ, ◌≤◌, Bool, true, ◌&&◌, not, List, [], ◌∷◌, ◌++◌, map, filter, length, Some, None, is_some, ◌⊎◌}
use Rattle.stn_model.specs.declared.ids.AgentId.{AgentId}
use Rattle.stn_model.specs.declared.ids.PointId.{PointId}
use Rattle.stn_walk.specs.Eliminations.{is_in}
use Rattle.elim_step.specs.declared.pick.Candidate.{Candidate}
use Rattle.elim_step.specs.Picks.{Picks, candidate_at}
use Rattle.claim_pass.specs.declared.answers.Claim.{Claim}
use Rattle.claim_pass.specs.declared.answers.Claim.TheVariants.{Eliminated, NoneLeft, NotTaken, Stopped}
use Rattle.claim_pass.specs.declared.answers.Did.{Did}
use Rattle.claim_pass.specs.declared.answers.Did.TheVariants.{Made, Nothing}
use Rattle.claim_pass.specs.declared.answers.Published.{Published}
use Rattle.claim_pass.specs.declared.answers.Published.TheVariants.{Entered, NotTaken as NotPublished, NotFitting}
use Rattle.shared_graph.specs.declared.events.By.TheVariants.{Agent}
use Rattle.shared_graph.specs.declared.events.Eliminated.TheVariants.{Clear, Stopped as StopEntered}
use Rattle.shared_graph.specs.declared.events.Entry.{Entry}
use Rattle.shared_graph.specs.declared.events.Event.{Event}
use Rattle.shared_graph.specs.declared.events.Event.TheVariants.{Publish, Eliminate, Revisit}
use Rattle.shared_graph.specs.declared.events.Illegal.TheVariants.{Negative}
use Rattle.shared_graph.specs.declared.events.Phase.{Phase}
use Rattle.shared_graph.specs.Histories.{SharedView}
use Rattle.shared_graph.specs.Interfaces.{InterfaceView, Summary, owner_in, points_of, IsFitting}
use Rattle.shared_graph.specs.Journals.{IsEliminatedBy, is_step_of, rank_of}
use Rattle.shared_graph.specs.Refusals.{refusal, is_that}
use Rattle.shared_graph.specs.States.{State}
use Rattle.shared_graph.specs.Takes.{MayEliminate, left_count}

-- an entry of an agent
abbrev pub entry_of : AgentId → Event → Entry
entry_of agent event = record { by = Agent agent; event = event }

-- one publish of the agent more, and nothing else
abbrev pub IsPublishedBy : AgentId → Summary → SharedView → SharedView → Type 0
IsPublishedBy agent summary old new =
    (new.face ≡ old.face) × (new.state ≡ record old.state { published = record { agent = agent.0; entries = summary } ∷ old.state.published })
    × (new.journal ≡ old.journal ++ entry_of agent (Publish agent) ∷ [])

-- a publish: entered where it is legal and fits, at the end of the journal; else nothing changes
abbrev pub IsPublish : AgentId → Summary → SharedView → SharedView → Published → Type 0
IsPublish agent summary old new (Entered place) =
    (refusal old.face old.state (entry_of agent (Publish agent)) ≡ None) × IsFitting old.face agent.0 summary
    × (place ≡ length old.journal) × IsPublishedBy agent summary old new
IsPublish agent summary old new (NotPublished cause) = (refusal old.face old.state (entry_of agent (Publish agent)) ≡ Some cause) × (new ≡ old)
IsPublish agent summary old new NotFitting =
    (refusal old.face old.state (entry_of agent (Publish agent)) ≡ None) × (IsFitting old.face agent.0 summary → ⊥) × (new ≡ old)

-- the shared points of an agent that are not eliminated, by number, as candidates with their degrees
abbrev pub is_own : InterfaceView → State → ℕ → ℕ → Bool
is_own face s agent p = is_that (owner_in face p) agent && not (is_in s.order p)

abbrev pub own_points : InterfaceView → State → ℕ → List ℕ
own_points face s agent = filter (is_own face s agent) (points_of face)

abbrev pub candidate_of : InterfaceView → State → ℕ → Candidate
candidate_of face s p = record { degree = left_count face s p; number = p }

abbrev pub candidates_in : InterfaceView → State → ℕ → List Candidate
candidates_in face s agent = map (candidate_of face s) (own_points face s agent)

-- the picker allows the point among these
pub record IsPicked (answers : ℕ → ℕ → ℕ → Type 0) (face : InterfaceView) (s : State) (agent point : ℕ) : Type 0 where
  pub place : ℕ
  pub picks : Picks answers (candidates_in face s agent) (Some place)
  pub is : (candidate_at (candidates_in face s agent) place).number ≡ point

-- what a try to eliminate a point comes to: it is in the order, or the stop is entered, by an entry of the agent; or it is refused for a cause
-- other than a negative sum
abbrev pub IsTaken : AgentId → PointId → SharedView → SharedView → Claim → Type 0
IsTaken agent point old new (Eliminated p place) =
    (p ≡ point) × (place ≡ length old.journal) × MayEliminate old.face old.state (Agent agent) point × IsEliminatedBy (Agent agent) point old new Clear
IsTaken agent point old new NoneLeft = ⊥
IsTaken agent point old new (NotTaken cause) =
    (refusal old.face old.state (entry_of agent (Eliminate point)) ≡ Some cause) × ((i : PointId) → cause ≢ Negative i) × (new ≡ old)
IsTaken agent point old new (Stopped c) =
    MayEliminate old.face old.state (Agent agent) point × IsEliminatedBy (Agent agent) point old new (StopEntered c)

-- no stop was entered, the picker allows a point, and this is what the try to eliminate it comes to
pub record IsPickedStep (answers : ℕ → ℕ → ℕ → Type 0) (agent : AgentId) (old new : SharedView) (claim : Claim) : Type 0 where
  pub going : old.state.stop ≡ None
  pub point : PointId
  pub picked : IsPicked answers old.face old.state agent.0 point.0
  pub taken : IsTaken agent point old new claim

-- a claim: a step with the picked point; or no stop was entered and no point is left; or a stop was there before. In the last two nothing changes
abbrev pub IsClaim : (ℕ → ℕ → ℕ → Type 0) → AgentId → SharedView → SharedView → Claim → Type 0
IsClaim answers agent old new (Eliminated p place) = IsPickedStep answers agent old new (Eliminated p place)
IsClaim answers agent old new NoneLeft = (old.state.stop ≡ None) × (own_points old.face old.state agent.0 ≡ []) × (new ≡ old)
IsClaim answers agent old new (NotTaken cause) = IsPickedStep answers agent old new (NotTaken cause)
IsClaim answers agent old new (Stopped c) =
    ((old.state.stop ≡ Some c) × (new ≡ old)) ⊎ IsPickedStep answers agent old new (Stopped c)

-- one revisit by the agent more, and nothing else
abbrev pub IsRevisitedBy : AgentId → PointId → SharedView → SharedView → Type 0
IsRevisitedBy agent k old new =
    (new.face ≡ old.face) × (new.state ≡ record old.state { revisited = k.0 ∷ old.state.revisited })
    × (new.journal ≡ old.journal ++ entry_of agent (Revisit k) ∷ [])

-- the revisit of a point is legal for the agent, and of the legal steps of the phase it is the least
pub record IsLeastBy (agent : AgentId) (phase : Phase) (face : InterfaceView) (s : State) (k : PointId) : Type 0 where
  pub step : is_step_of phase (Revisit k) ≡ true
  pub legal : refusal face s (entry_of agent (Revisit k)) ≡ None
  pub least : (f : Event) → is_step_of phase f ≡ true → refusal face s (entry_of agent f) ≡ None → k.0 ≤ rank_of f

-- a step of the phase of revisits: the least legal one, or none is legal
abbrev pub IsStep : AgentId → Phase → SharedView → SharedView → Did → Type 0
IsStep agent phase old new (Made place) =
    ((k : PointId) × IsLeastBy agent phase old.face old.state k × IsRevisitedBy agent k old new) × (place ≡ length old.journal)
IsStep agent phase old new Nothing =
    ((f : Event) → is_step_of phase f ≡ true → is_some (refusal old.face old.state (entry_of agent f)) ≡ true) × (new ≡ old)
