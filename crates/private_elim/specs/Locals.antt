-- What contracts see of an agent's own part of a network (its local problem: Boerkoel and Durfee 2013): LocalView, owned_below,
-- own_below, points_of, numbered_own, local_from, local_of, window_arcs, IsAdded, IsLocal, arcs_in, all_numbered, place_in,
-- private_at, is_private_in, is_seen_in, is_point_of, horizon_in, no_local_arc, local_arc_at, IsWindow, IsWindowOf.
use Rattle.std.specs.Prelude.{◌≡◌, ◌≢◌, ℕ, zero, suc, ◌+◌, ◌<◌, ℤ, pos, neg_ℤ, ◌≤ℤ◌, List, [], ◌∷◌, ◌++◌, map, length, Bool, true, false, ◌&&◌, not}
use Rattle.std.specs.Prelude.{◌==◌, Option, Some, None, is_some, slice_index_or, if◌then◌else◌, Contains}
use Rattle.std.specs.List.{All, list_all}
use Rattle.std.specs.Option.{option_map}
use Rattle.stn_model.specs.Limits.{greatest_bound}
use Rattle.stn_model.specs.declared.ids.Constraint.{Constraint}
use Rattle.stn_model.specs.Arcs.{arc_at, bound_at, no_arc}
use Rattle.stn_model.specs.Net.{Net, arcs_of, point_count}
use Rattle.stn_model.specs.Valid.{IsNetwork}
use Rattle.stn_model.specs.Kinds.{is_shared, is_owned_by, is_own}
use Rattle.elim_step.specs.declared.summary.Window.{Window}
use Rattle.private_elim.specs.declared.local.LocalArc.{LocalArc}

-- an agent, the points of its part with z first, whether each is shared, and its arcs with their numbers
pub record LocalView : Type 0 where
  pub agent : ℕ
  pub points : List ℕ
  pub shared : List Bool
  pub arcs : List LocalArc

-- the agent's points among those below n, by number
abbrev pub owned_below : Net → ℕ → ℕ → List ℕ
owned_below net agent zero = []
owned_below net agent (suc n) = owned_below net agent n ++ (if is_owned_by net agent n then n ∷ [] else [])

-- its own arcs among those below n, by number, each with its number
abbrev pub own_below : Net → ℕ → ℕ → List LocalArc
own_below net agent zero = []
own_below net agent (suc n) =
    own_below net agent n ++ (if is_own net agent (arc_at (arcs_of net) n) then record { number = Some n; arc = arc_at (arcs_of net) n } ∷ [] else [])

-- z and the agent's points, by number
abbrev pub points_of : Net → ℕ → List ℕ
points_of net agent = 0 ∷ owned_below net agent (point_count net)

-- the agent's own arcs, by number, each with its number
abbrev pub numbered_own : Net → ℕ → List LocalArc
numbered_own net agent = own_below net agent (length (arcs_of net))

-- a local problem is made of an agent's number, its points, which of them are shared, and its own arcs, and of nothing else
abbrev pub local_from : ℕ → List ℕ → (ℕ → Bool) → List LocalArc → LocalView
local_from agent points shared arcs = record { agent = agent; points = points; shared = map shared points; arcs = arcs }

-- the local problem of an agent of a network
abbrev pub local_of : Net → ℕ → LocalView
local_of net agent = local_from agent (points_of net agent) (is_shared net) (numbered_own net agent)

-- the two arcs of each window: its point lies from lo to hi after z
abbrev pub window_arcs : List Window → List LocalArc
window_arcs [] = []
window_arcs (w ∷ ws) =
    record { number = None; arc = record { from = record { 0 = 0 }; to = w.point; bound = w.hi } }
    ∷ record { number = None; arc = record { from = w.point; to = record { 0 = 0 }; bound = neg_ℤ w.lo } }
    ∷ window_arcs ws

-- an arc without a number, between z and another of the points, with a bound of magnitude at most 2^40
pub record IsAdded (points : List ℕ) (a : LocalArc) : Type 0 where
  pub number : a.number ≡ None
  pub starts : Contains points a.arc.from.0
  pub ends : Contains points a.arc.to.0
  pub different : a.arc.from.0 ≢ a.arc.to.0
  pub low : neg_ℤ (pos greatest_bound) ≤ℤ a.arc.bound
  pub high : a.arc.bound ≤ℤ pos greatest_bound

-- what is true of every local problem: it is that of an agent of some network, with some arcs added
pub record IsLocal (v : LocalView) : Type 0 where
  pub net : Net
  pub valid : IsNetwork net
  pub known : v.agent < length net.agents
  pub added : List LocalArc
  pub each : All (IsAdded v.points) added
  pub points : v.points ≡ points_of net v.agent
  pub shared : v.shared ≡ map (is_shared net) (points_of net v.agent)
  pub arcs : v.arcs ≡ numbered_own net v.agent ++ added

-- its arcs without their numbers
abbrev pub arcs_in : LocalView → List Constraint
arcs_in v = map (λ a. a.arc) v.arcs

-- whether each of the arcs has a number
abbrev pub all_numbered : List LocalArc → Bool
all_numbered arcs = list_all (λ a. is_some a.number) arcs

-- the place of a point
abbrev pub place_in : List ℕ → ℕ → Option ℕ
place_in [] p = None
place_in (x ∷ xs) p = if x == p then Some 0 else option_map (λ n. n + 1) (place_in xs p)

-- whether the point at a place is private: it is not z, and not shared
abbrev pub private_at : LocalView → ℕ → Bool
private_at v k = not (k == 0) && not (slice_index_or v.shared k true)

-- whether what stands at an optional place passes
abbrev pub passes_at : (ℕ → Bool) → Option ℕ → Bool
passes_at test None = false
passes_at test (Some k) = test k

-- whether a point is one of it
abbrev pub is_point_of : LocalView → ℕ → Bool
is_point_of v p = is_some (place_in v.points p)

-- whether a point is a private point of it
abbrev pub is_private_in : LocalView → ℕ → Bool
is_private_in v p = passes_at (private_at v) (place_in v.points p)

-- whether a point is z or a shared point of it
abbrev pub is_seen_in : LocalView → ℕ → Bool
is_seen_in v p = passes_at (λ k. not (private_at v k)) (place_in v.points p)

-- the horizon: the bound of its first arc, which is the first of the two that its first point has with z; 0 where there is no point
abbrev pub horizon_in : LocalView → ℤ
horizon_in v = bound_at (arcs_in v) 0

-- what stands past the end of the arcs
abbrev pub no_local_arc : LocalArc
no_local_arc = record { number = None; arc = no_arc }

-- the arc at a place among the arcs
abbrev pub local_arc_at : List LocalArc → ℕ → LocalArc
local_arc_at arcs k = slice_index_or arcs k no_local_arc

-- the ends of the window lie between 0 and 2^40
pub record IsWindow (w : Window) : Type 0 where
  pub lo_low : pos 0 ≤ℤ w.lo
  pub lo_high : w.lo ≤ℤ pos greatest_bound
  pub hi_low : pos 0 ≤ℤ w.hi
  pub hi_high : w.hi ≤ℤ pos greatest_bound

-- a window of one of the points other than z
pub record IsWindowOf (points : List ℕ) (w : Window) : Type 0 where
  pub known : Contains points w.point.0
  pub not_z : w.point.0 ≢ 0
  pub range : IsWindow w
