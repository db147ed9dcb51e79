-- The answers of a reduction, is_conflict, IfReduced, IfConflict, and what they say of networks: OfNetwork, HasOwnConflict, AreOwn.
use Rattle.std.specs.Prelude.{◌≡◌, ℕ, List, Bool, true, false}
use Rattle.std.specs.List.{AllByRecursion}
use Rattle.stn_model.specs.Arcs.{arc_at}
use Rattle.stn_model.specs.Net.{Net, arcs_of}
use Rattle.stn_model.specs.Valid.{IsNetwork}
use Rattle.stn_model.specs.Kinds.{is_own}
use Rattle.stn_model.specs.Conflicts.{IsOwnConflict}
use Rattle.private_elim.specs.declared.outcome.PrivateOutcome.{PrivateOutcome}
use Rattle.private_elim.specs.declared.outcome.PrivateOutcome.TheVariants.{Reduced, Conflict}
use Rattle.private_elim.specs.Locals.{LocalView, local_of}
use Rattle.private_elim.specs.ReducedViews.{ReducedView}

-- what holds of every network whose local problem it is
abbrev pub OfNetwork : LocalView → (Net → Type 0) → Type 0
OfNetwork v holds = (net : Net) → IsNetwork net → v ≡ local_of net v.agent → holds net

-- some cycle is an own conflict of the agent
abbrev pub HasOwnConflict : Net → ℕ → Type 0
HasOwnConflict net agent = (cycle : List ℕ) × IsOwnConflict net agent cycle

-- each is the number of an own arc of the agent
abbrev pub AreOwn : Net → ℕ → List ℕ → Type 0
AreOwn net agent ns = AllByRecursion (λ n. is_own net agent (arc_at (arcs_of net) n) ≡ true) ns

-- whether the answer is a conflict
abbrev pub is_conflict : PrivateOutcome → Bool
is_conflict (Reduced r) = false
is_conflict (Conflict walk place other) = true

-- what a reduction keeps
abbrev pub IfReduced : (ReducedView → Type 0) → PrivateOutcome → Type 0
IfReduced keeps (Reduced r) = keeps r
IfReduced keeps (Conflict walk place other) = Unit {0}

-- what a conflict shows: its cycle, the number of points taken before, and the other point
abbrev pub IfConflict : (List ℕ → ℕ → ℕ → Type 0) → PrivateOutcome → Type 0
IfConflict shows (Reduced r) = Unit {0}
IfConflict shows (Conflict walk place other) = shows walk place other.0
