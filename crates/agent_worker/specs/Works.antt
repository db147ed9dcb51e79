-- What workers come to: are_numbered, IsPart, IsConflictOf, IsWork, IsOf, AreWorks, AreReducedFrom, IsLeastConflict, part_of, IsGathered.
use Rattle.std.specs.Prelude.{◌≡◌, ℕ, ◌<◌, Bool, true, List, map, reverse, length, slice_get, Option, Some, None, is_some}
use Rattle.std.specs.List.{list_all}
use Rattle.stn_model.specs.Walks.{IsNormal}
use Rattle.stn_model.specs.Conflicts.{IsOwnConflict}
use Rattle.stn_model.specs.Summaries.{IsSummary}
use Rattle.elim_step.specs.Summaries.{entry_of}
use Rattle.private_elim.specs.Locals.{LocalView, all_numbered}
use Rattle.private_elim.specs.Picked.{ArePicked}
use Rattle.private_elim.specs.ReducedViews.{ReducedView}
use Rattle.private_elim.specs.Reductions.{OfNetwork, HasOwnConflict}
use Rattle.agent_worker.specs.declared.gather.Gathered.{Gathered}
use Rattle.agent_worker.specs.declared.gather.Gathered.TheVariants.{Reduced as AllReduced, PrivateConflict as LeastConflict}
use Rattle.agent_worker.specs.declared.worker.WorkerResult.{WorkerResult}
use Rattle.agent_worker.specs.declared.worker.WorkerResult.TheVariants.{Reduced, PrivateConflict, Stopped, OutOfMemory}

-- each arc of each local problem has a number
abbrev pub are_numbered : List LocalView → Bool
are_numbered locals = list_all (λ v. all_numbered v.arcs) locals

-- the local problem reduced in an order that the picker allows, with its agent's summary; the agent has no own conflict
pub record IsPart (answers : ℕ → ℕ → ℕ → Type 0) (v : LocalView) (r : ReducedView) : Type 0 where
  pub local : r.local ≡ v
  pub picked : ArePicked answers v (reverse r.order)
  pub sums_up : OfNetwork v (λ net. IsSummary net v.agent (map entry_of r.summary))
  pub clear : OfNetwork v (λ net. HasOwnConflict net v.agent → ⊥)

-- an own conflict of its agent, which begins with its arc of least number
pub record IsConflictOf (v : LocalView) (walk : List ℕ) : Type 0 where
  pub cycle : OfNetwork v (λ net. IsOwnConflict net v.agent walk)
  pub normal : IsNormal walk

-- what the worker of a local problem comes to
abbrev pub IsWork : (ℕ → ℕ → ℕ → Type 0) → LocalView → WorkerResult → Type 0
IsWork answers v (Reduced r) = IsPart answers v r
IsWork answers v (PrivateConflict walk) = IsConflictOf v walk
IsWork answers v (Stopped r cycle) = IsPart answers v r
IsWork answers v OutOfMemory = Unit {0}

-- it hands back this reduced part, or found no memory
abbrev pub IsOf : ReducedView → WorkerResult → Type 0
IsOf r (Reduced q) = q ≡ r
IsOf r (PrivateConflict walk) = ⊥
IsOf r (Stopped q cycle) = q ≡ r
IsOf r OutOfMemory = Unit {0}

-- one result for each local problem
pub record AreWorks (answers : ℕ → ℕ → ℕ → Type 0) (locals : List LocalView) (results : List WorkerResult) : Type 0 where
  pub one_each : length results ≡ length locals
  pub each : (a : ℕ) (v : LocalView) (w : WorkerResult) → slice_get locals a ≡ Some v → slice_get results a ≡ Some w → IsWork answers v w

-- one reduced part for each
pub record AreReducedFrom (answers : ℕ → ℕ → ℕ → Type 0) (locals : List LocalView) (reduced : List ReducedView) : Type 0 where
  pub one_each : length reduced ≡ length locals
  pub each : (a : ℕ) (v : LocalView) (r : ReducedView) → slice_get locals a ≡ Some v → slice_get reduced a ≡ Some r → IsPart answers v r

-- an own conflict of an agent, where no agent of less number has one
pub record IsLeastConflict (locals : List LocalView) (agent : ℕ) (walk : List ℕ) : Type 0 where
  pub local : LocalView
  pub there : slice_get locals agent ≡ Some local
  pub conflict : IsConflictOf local walk
  pub before : (a : ℕ) (v : LocalView) → a < agent → slice_get locals a ≡ Some v → OfNetwork v (λ net. HasOwnConflict net v.agent → ⊥)

-- the reduced part that a worker hands back
abbrev pub part_of : WorkerResult → Option ReducedView
part_of (Reduced r) = Some r
part_of (PrivateConflict walk) = None
part_of (Stopped r cycle) = Some r
part_of OutOfMemory = None

-- the reduced parts of all, or the first own conflict, before which each has a reduced part
abbrev pub IsGathered : List WorkerResult → Gathered → Type 0
IsGathered results (AllReduced reduced) = map part_of results ≡ map (λ r. Some r) reduced.items
IsGathered results (LeastConflict agent walk) =
    (slice_get results agent.0 ≡ Some (PrivateConflict walk))
    × ((a : ℕ) (w : WorkerResult) → a < agent.0 → slice_get results a ≡ Some w → is_some (part_of w) ≡ true)
