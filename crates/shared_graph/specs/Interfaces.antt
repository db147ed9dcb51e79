-- What all agents know of a network from the start: SharedPoint, InterfaceView, points_of, owner_among, owner_in, is_listed, own_among,
-- own_points_of, shared_points, interface_of, Summary, IsEnd, IsFitting, IsInterface.
use Rattle.std.specs.Prelude.{◌≡◌, ◌≢◌, ℕ, zero, suc, ◌+◌, ◌*◌, ◌<◌, ◌≤◌, ℤ, pos, nat_abs, ◌≤ℤ◌, Bool, true, ◌==◌, List, [], ◌∷◌, ◌++◌, map, filter, length}
use Rattle.std.specs.Prelude.{slice_index_or}
use Rattle.std.specs.Prelude.{Option, Some, None, is_some, if◌then◌else◌, Contains, ◌⊎◌}
use Rattle.std.specs.List.{All, AllPairs, list_any}
use Rattle.stn_model.specs.declared.ids.Constraint.{Constraint}
use Rattle.stn_model.specs.declared.ids.Lean.{Lean}
use Rattle.stn_model.specs.Limits.{most_agents, most_points, most_arcs, greatest_bound, greatest_walk}
use Rattle.stn_model.specs.Net.{Net, no_place}
use Rattle.stn_model.specs.Valid.{IsArcWithin}
use Rattle.stn_model.specs.Kinds.{is_shared, names_point}
use Rattle.stn_model.specs.Conflicts.{external_arcs}
use Rattle.elim_step.specs.declared.summary.SummaryEntry.{SummaryEntry}

-- a shared point with its owner
pub record SharedPoint : Type 0 where
  pub point : ℕ
  pub owner : ℕ

-- the agents' leans, the shared points by number, the external arcs by place, and the horizon
pub record InterfaceView : Type 0 where
  pub leans : List Lean
  pub points : List SharedPoint
  pub externals : List Constraint
  pub horizon : ℤ

-- the shared points by number
abbrev pub points_of : InterfaceView → List ℕ
points_of face = map (λ q. q.point) face.points

-- the owner of a point, if the list has it
abbrev pub owner_among : List SharedPoint → ℕ → Option ℕ
owner_among [] p = None
owner_among (q ∷ qs) p = if p == q.point then Some q.owner else owner_among qs p

-- the owner of a shared point; none of any other point
abbrev pub owner_in : InterfaceView → ℕ → Option ℕ
owner_in face p = owner_among face.points p

-- whether a point is shared
abbrev pub is_listed : InterfaceView → ℕ → Bool
is_listed face p = is_some (owner_in face p)

-- the points of an owner in a list, in their order
abbrev pub own_among : List SharedPoint → ℕ → List ℕ
own_among points agent = map (λ q. q.point) (filter (λ q. q.owner == agent) points)

-- the shared points of an agent, by number
abbrev pub own_points_of : InterfaceView → ℕ → List ℕ
own_points_of face agent = own_among face.points agent

-- the shared points from 1 to n, with their owners
abbrev pub shared_points : Net → ℕ → List SharedPoint
shared_points net zero = []
shared_points net (suc n) =
    shared_points net n ++ (if is_shared net (suc n) then record { point = suc n; owner = (slice_index_or net.places n no_place).owner } ∷ [] else [])

-- the interface of a network: nothing of it is private to an agent
abbrev pub interface_of : Net → InterfaceView
interface_of net = record {
  leans = map (λ a. a.lean) net.agents;
  points = shared_points net (length net.places);
  externals = external_arcs net;
  horizon = net.horizon;
}

-- what one agent tells
abbrev pub Summary : Type 0
Summary = List SummaryEntry

-- z, or a shared point of the agent
abbrev pub IsEnd : InterfaceView → ℕ → ℕ → Type 0
IsEnd face agent p = (p ≡ 0) ⊎ (owner_in face p ≡ Some agent)

-- the summary names only z and shared points of the agent; as in every summary, its pairs are of different points and its weights of magnitude at
-- most 2^53
abbrev pub IsFitting : InterfaceView → ℕ → Summary → Type 0
IsFitting face agent entries =
    (e : SummaryEntry) → Contains entries e
    → IsEnd face agent e.from.0 × IsEnd face agent e.to.0 × (e.from.0 ≢ e.to.0) × (nat_abs e.weight ≤ greatest_walk)

-- within the limits of a network; z is not listed, points rise, and their owners are agents; external arcs join different listed points of
-- different owners, and name each listed point
pub record IsInterface (face : InterfaceView) : Type 0 where
  pub without_z : owner_in face 0 ≡ None
  pub starts : (a : Constraint) → Contains face.externals a → is_listed face a.from.0 ≡ true
  pub ends : (a : Constraint) → Contains face.externals a → is_listed face a.to.0 ≡ true
  pub different : (a : Constraint) → Contains face.externals a → a.from.0 ≢ a.to.0
  pub apart : (a : Constraint) → Contains face.externals a → owner_in face a.from.0 ≢ owner_in face a.to.0
  pub named : (p : ℕ) → is_listed face p ≡ true → list_any (names_point p) face.externals ≡ true
  pub rising : AllPairs (λ q r. q.point < r.point) face.points
  pub owners : All (λ q. q.owner < length face.leans) face.points
  pub few_agents : length face.leans ≤ most_agents
  pub few_points : length face.points < most_points
  pub few_externals : length face.externals ≤ 2 * most_points + most_arcs
  pub bounds : (a : Constraint) → Contains face.externals a → IsArcWithin most_points a
  pub horizon_low : pos 0 ≤ℤ face.horizon
  pub horizon_high : face.horizon ≤ℤ pos greatest_bound
