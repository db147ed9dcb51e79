-- How the fields of an interface are seen: listed_from, interface_view, own_after, AreOwn, IsKept.
use Rattle.std.specs.Prelude.{◌≡◌, ℕ, suc, ◌<◌, List, [], ◌∷◌, ◌++◌, map, length, slice_index_or, slice_set, Option, Some, None}
use Rattle.stn_model.specs.declared.ids.AgentId.{AgentId}
use Rattle.stn_model.specs.declared.ids.PointId.{PointId}
use Rattle.shared_graph.specs.declared.interface.Interface.TheInside.{Inside}
use Rattle.shared_graph.specs.Interfaces.{SharedPoint, InterfaceView, IsInterface, points_of, own_among}

-- the points that have an owner in a table of the points from n on
abbrev pub listed_from : ℕ → List (Option AgentId) → List SharedPoint
listed_from n [] = []
listed_from n (None ∷ owners) = listed_from (suc n) owners
listed_from n (Some a ∷ owners) = record { point = n; owner = a.0 } ∷ listed_from (suc n) owners

-- the shared points are those with an owner in the table
abbrev pub interface_view : Inside → InterfaceView
interface_view s = record {
  leans = s.leans.items;
  points = listed_from 0 s.owners.items;
  externals = s.externals.items;
  horizon = s.horizon;
}

-- lists of points, one for each agent, with one point more at the end of its owner's, where it has one
abbrev pub own_after : List (List PointId) → PointId → Option AgentId → List (List PointId)
own_after lists point None = lists
own_after lists point (Some a) = slice_set lists a.0 (slice_index_or lists a.0 [] ++ point ∷ [])

-- for each agent a list: its points, in their order
pub record AreOwn (agents : ℕ) (points : List SharedPoint) (lists : List (List PointId)) : Type 0 where
  pub many : length lists ≡ agents
  pub each : (a : ℕ) → a < agents → map (λ p. p.0) (slice_index_or lists a []) ≡ own_among points a

-- it is an interface, the list of points is that of the table, and so are the lists of each agent's own points
pub record IsKept (s : Inside) : Type 0 where
  pub interface : IsInterface (interface_view s)
  pub points : map (λ p. p.0) s.points.items ≡ points_of (interface_view s)
  pub own : AreOwn (length s.leans.items) (listed_from 0 s.owners.items) (map (λ l. l.items) s.own.items)
