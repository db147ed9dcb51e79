-- What the elimination of an agent's private points comes to, at one stroke: IsNext, IsReducedWith, IsConflictWith, IsReducedFrom, IsConflictFrom,
-- IsPickedOutcome, IsListedOutcome.
use Rattle.std.specs.Prelude.{◌≡◌, ℕ, ◌<◌, List, true, false, length, reverse, take, slice_index}
use Rattle.std.specs.List.{AllByRecursion}
use Rattle.stn_model.specs.Walks.{AllDifferent, IsNormal}
use Rattle.stn_model.specs.Conflicts.{IsOwnConflict}
use Rattle.stn_walk.specs.Eliminations.{is_in}
use Rattle.elim_step.specs.Eliminated.{point_at}
use Rattle.private_elim.specs.declared.outcome.PrivateOutcome.{PrivateOutcome}
use Rattle.private_elim.specs.declared.outcome.PrivateOutcome.TheVariants.{Reduced, Conflict}
use Rattle.private_elim.specs.Locals.{LocalView, is_private_in}
use Rattle.private_elim.specs.Taken.{TakenView, StopsAt}
use Rattle.private_elim.specs.Picked.{ArePicked, IsStopped}
use Rattle.private_elim.specs.ReducedViews.{ReducedView, IsReduced}
use Rattle.private_elim.specs.Reductions.{OfNetwork}

-- the private point p, which is not taken, stands at this place
pub record IsNext (t : TakenView) (p place : ℕ) : Type 0 where
  pub within : place < length t.local.points
  pub is : point_at t.local.points place ≡ p
  pub private : is_private_in t.local p ≡ true
  pub left : is_in (reverse t.order) p ≡ false

-- all private points of the local problem are taken, in this order
pub record IsReducedWith (v : LocalView) (order : List ℕ) (r : ReducedView) : Type 0 where
  pub local : r.local ≡ v
  pub order_is : r.order ≡ order
  pub private : AllByRecursion (λ p. is_private_in v p ≡ true) order
  pub once : AllDifferent order
  pub reduced : IsReduced r.local r.order r.summary

-- the cycle is an own conflict of the agent in every network whose local problem it is
pub record IsConflictWith (v : LocalView) (walk : List ℕ) : Type 0 where
  pub cycle : OfNetwork v (λ net. IsOwnConflict net v.agent walk)
  pub normal : IsNormal walk

-- the answer once all private points are taken
abbrev pub IsReducedFrom : TakenView → PrivateOutcome → Type 0
IsReducedFrom t (Reduced r) = IsReducedWith t.local t.order r
IsReducedFrom t (Conflict walk place other) = ⊥

-- the answer where a point fails, with the point q
abbrev pub IsConflictFrom : TakenView → ℕ → PrivateOutcome → Type 0
IsConflictFrom t q (Reduced r) = ⊥
IsConflictFrom t q (Conflict walk place other) = IsConflictWith t.local walk × (place ≡ length t.order) × (other.0 ≡ q)

-- the answer for an order that the picker allows
abbrev pub IsPickedOutcome : (ℕ → ℕ → ℕ → Type 0) → LocalView → PrivateOutcome → Type 0
IsPickedOutcome answers v (Reduced r) = IsReducedWith v r.order r × ArePicked answers v (reverse r.order)
IsPickedOutcome answers v (Conflict walk place other) = IsConflictWith v walk × IsStopped answers v place other.0

-- the answer for a given order
abbrev pub IsListedOutcome : LocalView → List ℕ → PrivateOutcome → Type 0
IsListedOutcome v order (Reduced r) = IsReducedWith v order r
IsListedOutcome v order (Conflict walk place other) =
    IsConflictWith v walk × (place < length order) × StopsAt v (reverse (take place order)) (slice_index order place) other.0
