-- Records of a solve: eliminated_in, joined_order, IsPrivateOrder, IsLegalSection, ArePickedOrders, JoinedView, IsJoined, AreJoinedParts, private_of, orders_of, SolvedBy.
use Rattle.std.specs.Prelude.{◌≡◌, ℕ, ◌<◌, List, [], ◌∷◌, ◌++◌, true, map, length, reverse, slice_index_or, Some, None}
use Rattle.std.specs.List.{AllByRecursion, flat_map, list_all}
use Rattle.stn_model.specs.declared.ids.PointId.{PointId}
use Rattle.stn_model.specs.Net.{Net, arcs_of, point_count}
use Rattle.stn_model.specs.Schedules.{IsConsistent}
use Rattle.stn_model.specs.Valid.{IsNetwork}
use Rattle.stn_model.specs.Walks.{AllDifferent}
use Rattle.stn_walk.specs.Eliminations.{is_in}
use Rattle.private_elim.specs.Locals.{LocalView, local_of, is_private_in}
use Rattle.private_elim.specs.Picked.{ArePicked}
use Rattle.private_elim.specs.ReducedViews.{ReducedView}
use Rattle.private_elim.specs.Taken.{NoneFails}
use Rattle.shared_graph.specs.declared.events.Entry.{Entry}
use Rattle.shared_graph.specs.declared.events.Event.{Event}
use Rattle.shared_graph.specs.declared.events.Event.TheVariants.{Publish, Eliminate, Stop, Revisit, Assign, Widen}
use Rattle.shared_graph.specs.declared.events.Phase.TheVariants.{Order, Reverse}
use Rattle.shared_graph.specs.Histories.{SharedView}
use Rattle.shared_graph.specs.Interfaces.{Summary, interface_of}
use Rattle.shared_graph.specs.Journals.{AgreeWith, IsDone, StandsFor, is_before_times}
use Rattle.shared_graph.specs.Replays.{AreRight, replay}
use Rattle.shared_graph.specs.States.{State, start, point_id}
use Rattle.elim_journal.specs.Sections.{SectionView}
use Rattle.conflict_cycle.specs.Belongs.{AreReducedOf}
use Rattle.conflict_cycle.specs.PartOrders.{order_of}
use Rattle.conflict_cycle.specs.Parts.{PartsView, BelongsTo}

-- the points that entries eliminate, in their order
abbrev pub points_eliminated : Event → List PointId
points_eliminated (Publish a) = []
points_eliminated (Eliminate k) = k ∷ []
points_eliminated (Stop k i) = []
points_eliminated (Revisit k) = []
points_eliminated (Assign k v) = []
points_eliminated (Widen k end) = []

abbrev pub eliminated_in : List Entry → List PointId
eliminated_in entries = flat_map (λ e. points_eliminated e.event) entries

-- the joined order of a record: its private points, its shared points as they were eliminated, and the reference point
abbrev pub joined_order : SectionView → List PointId
joined_order section = section.private ++ eliminated_in section.entries ++ point_id 0 ∷ []

-- the private points of a local problem, each once, in an order in which none fails
pub record IsPrivateOrder (v : LocalView) (order : List ℕ) : Type 0 where
  pub private : AllByRecursion (λ p. is_private_in v p ≡ true) order
  pub once : AllDifferent order
  pub whole : (p : ℕ) → is_private_in v p ≡ true → is_in order p ≡ true
  pub clear : NoneFails v (reverse order)

-- the private points are those of each agent in turn, each agent's in an order in which none fails
pub record ArePrivateOrders (net : Net) (private : List ℕ) (orders : List (List ℕ)) : Type 0 where
  pub is : private ≡ flat_map (λ order. order) orders
  pub one_each : length orders ≡ length net.agents
  pub each : (a : ℕ) → a < length net.agents → IsPrivateOrder (local_of net a) (slice_index_or orders a [])

-- the entries are legal in their places over the interface of the network and the summaries of its agents, and lead to a graph in which all agents
-- have published and all shared points are eliminated and revisited, without a stop
pub record AreWholeEntries (net : Net) (entries : List Entry) : Type 0 where
  pub summaries : List Summary
  pub right : AreRight net summaries
  pub state : State
  pub replays : replay (interface_of net) summaries start entries ≡ Some state
  pub going : state.stop ≡ None
  pub ordered : IsDone (interface_of net) state Order
  pub revisited : IsDone (interface_of net) state Reverse

-- a record of how the network may be solved
pub record IsLegalSection (net : Net) (section : SectionView) : Type 0 where
  pub orders : List (List ℕ)
  pub private : ArePrivateOrders net (map (λ p. p.0) section.private) orders
  pub entries : AreWholeEntries net section.entries

-- each private point is one that the picker allows among those of its agent that are left
pub record ArePickedOrders (answers : ℕ → ℕ → ℕ → Type 0) (net : Net) (section : SectionView) : Type 0 where
  pub orders : List (List ℕ)
  pub private : ArePrivateOrders net (map (λ p. p.0) section.private) orders
  pub picked : (a : ℕ) → a < length net.agents → ArePicked answers (local_of net a) (reverse (slice_index_or orders a []))

-- what contracts see of a joined answer
pub record JoinedView : Type 0 where
  pub network : Net
  pub order : List PointId
  pub section : SectionView

-- the network is consistent, and the order is that of the record
pub record IsJoined (j : JoinedView) : Type 0 where
  pub network : IsNetwork j.network
  pub consistent : IsConsistent (point_count j.network) (arcs_of j.network)
  pub order : j.order ≡ joined_order j.section

-- the parts belong to the network, and its order is theirs
pub record AreJoinedParts (network : Net) (order : List PointId) (parts : PartsView) : Type 0 where
  pub belongs : BelongsTo network parts
  pub laid : map (λ p. p.0) order ≡ order_of parts.reduced parts.shared.state

-- the private points of reduced parts, in their orders
abbrev pub private_of : List ReducedView → List ℕ
private_of reduced = flat_map (λ r. r.order) reduced

-- their orders
abbrev pub orders_of : List ReducedView → List (List ℕ)
orders_of reduced = map (λ r. r.order) reduced

-- the agents' reduced parts, and a graph that stands for the network, with their summaries, in which all is eliminated and revisited
pub record SolvedBy (net : Net) (reduced : List ReducedView) (shared : SharedView) : Type 0 where
  pub network : IsNetwork net
  pub consistent : IsConsistent (point_count net) (arcs_of net)
  pub parts : AreReducedOf net reduced
  pub agree : AgreeWith (map (λ r. r.summary) reduced) shared.state
  pub stands : StandsFor net shared
  pub ordered : IsDone shared.face shared.state Order
  pub revisited : IsDone shared.face shared.state Reverse
  pub before : list_all (λ e. is_before_times e.event) shared.journal ≡ true
