-- What a shared graph keeps, and what is true of it: GraphView, places_in, published_of, state_of, IsAgentArc, IsMeetingLeaf, IsSumThrough, IsOrigin,
-- IsPlaceVia, via_by_point, IsSumBefore, HasSumsBefore, IsFinalVia, HaveCome, list_at, flag_at, is_gone, gone_count, Fields, IsLaterList, AreCounted,
-- IsGraph. The place 0 stands for z, and the others for the shared points by number.
use Rattle.std.specs.Prelude.{◌≡◌, ℕ, suc, ◌+◌, ◌<◌, ◌≤◌, List, [], ◌∷◌, Bool, true, false, ◌&&◌, not, map, reverse, length, slice_index_or, Option, Some, IfSome, Contains}
use Rattle.stn_model.specs.declared.ids.Constraint.{Constraint}
use Rattle.stn_model.specs.declared.ids.PointId.{PointId}
use Rattle.stn_walk.specs.Eliminations.{is_in, before_both, sum_of}
use Rattle.dist_rows.specs.Places.{AreRisingPlaces}
use Rattle.dist_rows.specs.declared.cell.Cell.{Cell}
use Rattle.dist_rows.specs.declared.cell.Via.{Via}
use Rattle.dist_rows.specs.declared.cell.Via.TheVariants.{Given, Published as PublishedBy, Through}
use Rattle.elim_step.specs.declared.joins.Joins.{Joins}
use Rattle.elim_step.specs.JoinedPlaces.{is_joined as are_joined}
use Rattle.elim_step.specs.Eliminated.{IsEliminated, point_at, weight_at}
use Rattle.elim_step.specs.Eliminates.{remains, count_below}
use Rattle.elim_step.specs.Origins.{IsArcOf, HasOrigins}
use Rattle.shared_graph.specs.declared.events.SharedCycle.{SharedCycle}
use Rattle.shared_graph.specs.declared.told.Told.{Told}
use Rattle.shared_graph.specs.Interfaces.{InterfaceView, IsInterface, points_of}
use Rattle.shared_graph.specs.States.{State, Published, agent_arcs, meeting_of, is_published, is_revisited}
use Rattle.shared_graph.specs.Weights.{forward, final, is_joined, is_later}
use Rattle.shared_graph.specs.Together.{HoldsTogether}
use Rattle.shared_graph.specs.Throughs.{CameThrough}

-- the interface and the plain state
pub record GraphView : Type 0 where
  pub face : InterfaceView
  pub state : State

-- the points of the places
abbrev pub places_in : InterfaceView → List ℕ
places_in face = 0 ∷ points_of face

-- what an agent has told
abbrev pub published_of : Told → Published
published_of t = record { agent = t.agent.0; entries = t.summary }

-- the state of lists in which the last one stands last; no point has a time yet
abbrev pub state_of : List Told → List PointId → Option SharedCycle → List PointId → State
state_of published order stop revisited = record {
  published = reverse (map published_of published);
  order = reverse (map (λ p. p.0) order);
  stop = stop;
  revisited = reverse (map (λ p. p.0) revisited);
  assigned = [];
}

-- an arc that a published agent told, of this weight
abbrev pub IsAgentArc : InterfaceView → State → ℕ → ℕ → Cell → ℕ → Type 0
IsAgentArc face s i j c agent =
    (p : Published) × Contains s.published p × (p.agent ≡ agent)
    × ((a : Constraint) × Contains (agent_arcs face p) a × (a.from.0 ≡ i) × (a.to.0 ≡ j) × (a.bound ≡ c.weight))

-- a weight that is no sum: that of an external arc, by its place, or of an arc that an agent told
abbrev pub IsMeetingLeaf : InterfaceView → State → List ℕ → ℕ → ℕ → Cell → Via → Type 0
IsMeetingLeaf face s points p q c (Given e) = IsArcOf points face.externals p q c e
IsMeetingLeaf face s points p q c (PublishedBy a) = IsAgentArc face s (point_at points p) (point_at points q) c a.0
IsMeetingLeaf face s points p q c (Through k) = ⊥

-- where the weight from one point to another comes from: the sum is that of two weights through a point that was eliminated before both
pub record IsSumThrough (face : InterfaceView) (s : State) (i j : ℕ) (c : Cell) (p : ℕ) : Type 0 where
  pub before : is_in (before_both s.order i j) p ≡ true
  pub weighs : sum_of (forward face s i p) (forward face s p j) ≡ Some c.weight

abbrev pub IsOrigin : InterfaceView → State → ℕ → ℕ → Cell → Via → Type 0
IsOrigin face s i j c (Given e) = IsArcOf (i ∷ j ∷ []) face.externals 0 1 c e
IsOrigin face s i j c (PublishedBy a) = IsAgentArc face s i j c a.0
IsOrigin face s i j c (Through p) = IsSumThrough face s i j c p

-- an origin that names a place below this number, and the same by the point of the place
abbrev pub IsPlaceVia : ℕ → Via → Type 0
IsPlaceVia size (Given e) = Unit {0}
IsPlaceVia size (PublishedBy a) = Unit {0}
IsPlaceVia size (Through k) = k < size

abbrev pub via_by_point : List ℕ → Via → Via
via_by_point points (Given e) = Given e
via_by_point points (PublishedBy a) = PublishedBy a
via_by_point points (Through k) = Through (point_at points k)

-- a cell that is a sum was written when the point between was eliminated, before both of its ends
abbrev pub IsSumBefore : List ℕ → List ℕ → ℕ → ℕ → Via → Type 0
IsSumBefore points order p q (Given e) = Unit {0}
IsSumBefore points order p q (PublishedBy a) = Unit {0}
IsSumBefore points order p q (Through k) = is_in (before_both order (point_at points p) (point_at points q)) (point_at points k) ≡ true

abbrev pub HasSumsBefore : List ℕ → List ℕ → (ℕ → ℕ → Option Cell) → Type 0
HasSumsBefore points order at = (p q : ℕ) → IfSome (at p q) (λ c. IsSumBefore points order p q c.via)

-- a final weight came through the point of a place, and all those between places did
abbrev pub IsFinalVia : InterfaceView → State → List ℕ → ℕ → ℕ → Via → Type 0
IsFinalVia face s points i j (Given e) = ⊥
IsFinalVia face s points i j (PublishedBy a) = ⊥
IsFinalVia face s points i j (Through k) = (k < length points) × CameThrough face s i j (point_at points k)

abbrev pub HaveCome : InterfaceView → State → List ℕ → (ℕ → ℕ → Option Cell) → Type 0
HaveCome face s points at =
    (p q : ℕ) → p < length points → q < length points
    → IfSome (at p q) (λ c. IsFinalVia face s points (point_at points p) (point_at points q) c.via)

-- the list of a place, and its truth value
abbrev pub list_at : List (List ℕ) → ℕ → List ℕ
list_at lists k = slice_index_or lists k []

abbrev pub flag_at : List Bool → ℕ → Bool
flag_at flags k = slice_index_or flags k false

-- an eliminated point that is joined with k, and at how many of these places there is one
abbrev pub is_gone : InterfaceView → State → ℕ → ℕ → Bool
is_gone face s k p = is_joined face s k p && is_in s.order p

abbrev pub gone_count : InterfaceView → State → List ℕ → ℕ → ℕ
gone_count face s points k = count_below (λ m. is_gone face s k (point_at points m)) (length points)

-- the interface and the state; the points by place; the forward cells, the joined pairs, and which places remain; of each eliminated place its later
-- neighbours; the final cells, the pairs with room for one, and which places are revisited; how many agents, places and revisits are left, and how
-- many points may stand in the list of the revisited ones without memory; with how many eliminated places each place is joined
pub record Fields : Type 0 where
  pub face : InterfaceView
  pub state : State
  pub points : List ℕ
  pub places : ℕ
  pub at : ℕ → ℕ → Option Cell
  pub joins : Joins
  pub remain : List Bool
  pub later : List (List ℕ)
  pub final_places : ℕ
  pub final_at : ℕ → ℕ → Option Cell
  pub final_room : ℕ → ℕ → Bool
  pub done : List Bool
  pub unpublished : ℕ
  pub untaken : ℕ
  pub unvisited : ℕ
  pub revisit_room : ℕ
  pub gone : List ℕ

-- the later neighbours of each eliminated place, by rising place, and room for the final cells with each
pub record IsLaterList (g : Fields) (k : ℕ) (list : List ℕ) : Type 0 where
  pub rising : AreRisingPlaces list
  pub within : (m : ℕ) → is_in list m ≡ true → m < length g.points
  pub each : (m : ℕ) → m < length g.points → is_in list m ≡ is_later g.face g.state (point_at g.points k) (point_at g.points m)
  pub room : (m : ℕ) → is_in list m ≡ true → (g.final_room k m ≡ true) × (g.final_room m k ≡ true)

-- with how many eliminated points the point of each place is joined, where it is not eliminated itself
pub record AreCounted (face : InterfaceView) (s : State) (points gone : List ℕ) : Type 0 where
  pub len : length gone ≡ length points
  pub each : (k : ℕ) → k < length points → is_in s.order (point_at points k) ≡ false → slice_index_or gone k 0 ≡ gone_count face s points (point_at points k)

-- what the fields come to, in the terms of the state
pub record IsGraph (g : Fields) : Type 0 where
  pub interface : IsInterface g.face
  pub together : HoldsTogether g.face g.state
  pub points : g.points ≡ places_in g.face
  pub places : g.places ≡ length g.points
  pub joins_size : g.joins.size ≡ length g.points
  pub cells : IsEliminated g.points (meeting_of g.face g.state) g.state.order g.at g.remain
  pub origins : HasOrigins (IsMeetingLeaf g.face g.state g.points) g.points g.state.order g.at
  pub sums : HasSumsBefore g.points g.state.order g.at
  pub joined : (p q : ℕ) → p < length g.points → q < length g.points
      → are_joined g.joins p q ≡ is_joined g.face g.state (point_at g.points p) (point_at g.points q)
  pub later_len : length g.later ≡ length g.points
  pub later : (k : ℕ) → k < length g.points → is_in g.state.order (point_at g.points k) ≡ true → IsLaterList g k (list_at g.later k)
  pub final_places : g.final_places ≡ length g.points
  pub finals : (p q : ℕ) → p < length g.points → q < length g.points
      → weight_at (g.final_at p q) ≡ final g.face g.state (point_at g.points p) (point_at g.points q)
  pub done_len : length g.done ≡ length g.points
  pub done : (k : ℕ) → k < length g.points → flag_at g.done k ≡ is_revisited g.state (point_at g.points k)
  pub unpublished : g.unpublished ≡ count_below (λ a. not (is_published g.state a)) (length g.face.leans)
  pub untaken : suc g.untaken ≡ count_below (remains g.remain) (length g.points)
  pub unvisited : g.unvisited ≡ count_below (λ k. not (flag_at g.done k)) (length g.points)
  pub revisits_fit : length g.state.revisited + g.unvisited ≤ g.revisit_room
  pub throughs : HaveCome g.face g.state g.points g.final_at
  pub gone : AreCounted g.face g.state g.points g.gone
