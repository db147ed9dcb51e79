-- What holds of the steps of a shared graph, and of what they say of a network: StartHolds, EntriesKeep, ReplaysHold, OfReplays, StopsShow, WholeOrdersShow,
-- WholeWeightsAreBounds, FinalsAreBounds, RevisitsSum, IsSameOutside, InterfacesAgree, ReplaysAgree, StopsExcludeWholeOrders, WholeWeightsAgree,
-- PublishesLower, EliminationsLower, NeighboursJoin, RevisitsMake, JoinedIsJoined, IsFirstFault, FaultsAreFirst, EliminationsJoin, RevisitsKeep,
-- LeastNegativesAreLeast, FirstsAreLeast, StatesHaveGround, InterfacesList, IsSameBut, SummariesCarryOver, NegativesStop, StepsGoOn,
-- IsSameButTimes, TimesStandApart.
use Rattle.std.specs.Prelude.{◌≡◌, ◌≢◌, ◌↔◌, ℕ, ◌<◌, ℤ, Bool, true, false, ◌&&◌, ◌||◌, not, ◌==◌, if◌then◌else◌, List, ◌∷◌, map, reverse, length, ◌++◌}
use Rattle.std.specs.Prelude.{is_some, Some, None, ◌⊎◌}
use Rattle.stn_model.specs.Net.{Net, arcs_of, point_count, owner_of}
use Rattle.stn_model.specs.Valid.{IsNetwork}
use Rattle.stn_model.specs.Kinds.{is_shared}
use Rattle.stn_model.specs.Joined.{IsJoined}
use Rattle.stn_model.specs.Conflicts.{own_arcs, external_arcs, IsOwnConflict}
use Rattle.stn_model.specs.Summaries.{IsSummary}
use Rattle.stn_model.specs.Schedules.{IsConsistent, IsLeastBound}
use Rattle.meeting_arcs.specs.Meeting.{meets}
use Rattle.elim_step.specs.Summaries.{entry_of}
use Rattle.elim_step.specs.Eliminated.{IsGround}
use Rattle.shared_graph.specs.declared.events.SharedCycle.{SharedCycle}
use Rattle.shared_graph.specs.declared.events.By.{By}
use Rattle.shared_graph.specs.declared.events.Entry.{Entry}
use Rattle.shared_graph.specs.declared.events.By.TheVariants.{Joiner}
use Rattle.shared_graph.specs.declared.events.Event.TheVariants.{Publish, Eliminate, Revisit, Stop, Assign, Widen}
use Rattle.shared_graph.specs.declared.events.End.{End}
use Rattle.stn_model.specs.declared.ids.PointId.{PointId}
use Rattle.shared_graph.specs.Interfaces.{InterfaceView, Summary, IsInterface, IsFitting, interface_of, owner_in, points_of, is_listed}
use Rattle.shared_graph.specs.States.{agent_id, point_id, State, start, is_revisited, agent_arcs, meeting_of, is_published}
use Rattle.shared_graph.specs.Weights.{forward, is_joined, is_later, final, final_weight, later_neighbours, is_negative, first_passing, least_negative}
use Rattle.shared_graph.specs.Weights.{least_over, sum_from, sum_to}
use Rattle.stn_walk.specs.Eliminations.{is_in, before_both, lesser, sum_of, bound_of}
use Rattle.stn_walk.specs.Joins.{has_edge}
use Rattle.shared_graph.specs.Refusals.{negative, first_below, refusal}
use Rattle.shared_graph.specs.Replays.{summary_of, AreRight, after, replay, Fault, fault_of}
use Rattle.shared_graph.specs.Together.{IsAllPublished, IsWhole, IsOwned, IsRevisit, HoldsTogether}

-- the state in which nothing is done holds together
abbrev pub StartHolds : Type 0
StartHolds = (face : InterfaceView) → IsInterface face → HoldsTogether face start

-- a legal entry keeps a state that holds together so
abbrev pub EntriesKeep : Type 0
EntriesKeep =
    (face : InterfaceView) (summaries : List Summary) → IsInterface face → ((a : ℕ) → IsFitting face a (summary_of summaries a))
    → (s : State) (e : Entry) → HoldsTogether face s → refusal face s e ≡ None → HoldsTogether face (after face summaries s e.event)

-- so every replayed state does
abbrev pub ReplaysHold : Type 0
ReplaysHold =
    (face : InterfaceView) (summaries : List Summary) → IsInterface face → ((a : ℕ) → IsFitting face a (summary_of summaries a))
    → (es : List Entry) (s : State) → replay face summaries start es ≡ Some s → HoldsTogether face s

-- the premise of the laws below: a state that entries lead to, over the interface of a network and the right summaries of all its agents, none of
-- which has an own conflict
abbrev pub OfReplays : (Net → State → Type 0) → Type 0
OfReplays holds =
    (net : Net) → IsNetwork net → (summaries : List Summary) → AreRight net summaries
    → (es : List Entry) (s : State) → replay (interface_of net) summaries start es ≡ Some s → holds net s

-- after a stop no schedule satisfies the network, published or not
abbrev pub StopsShow : Type 0
StopsShow = OfReplays (λ net s. (t : SharedCycle) → s.stop ≡ Some t → IsConsistent (point_count net) (arcs_of net) → ⊥)

-- once every agent is published and the order is whole, some schedule satisfies it; there is no stop then, by the law above
abbrev pub WholeOrdersShow : Type 0
WholeOrdersShow = OfReplays (λ net s. IsAllPublished (interface_of net) s → IsWhole (interface_of net) s → IsConsistent (point_count net) (arcs_of net))

-- and the least weights between different points among z and the shared points are there, and are the least bounds
abbrev pub WholeWeightsAreBounds : Type 0
WholeWeightsAreBounds =
    OfReplays (λ net s. IsAllPublished (interface_of net) s → IsWhole (interface_of net) s
    → (i j : ℕ) → meets net i ≡ true → meets net j ≡ true → i ≢ j
    → (b : ℤ) × (final_weight (interface_of net) s i j ≡ Some b) × IsLeastBound (point_count net) (arcs_of net) i j b)

-- so the final cell of two joined revisited points is there, and is the least bound
abbrev pub FinalsAreBounds : Type 0
FinalsAreBounds =
    OfReplays (λ net s. (i j : ℕ) → is_joined (interface_of net) s i j ≡ true → is_revisited s i ≡ true → is_revisited s j ≡ true
    → (b : ℤ) × (final (interface_of net) s i j ≡ Some b) × IsLeastBound (point_count net) (arcs_of net) i j b)

-- once the order is whole, the least weight between k and a point that does not come before it is the least sum by a later neighbour of k
abbrev pub RevisitsSum : Type 0
RevisitsSum =
    (face : InterfaceView) → IsInterface face → (s : State) → HoldsTogether face s → IsWhole face s
    → (k j : ℕ) → is_in (before_both s.order k k) j ≡ false → k ≢ j
    → (final_weight face s k j ≡ least_over (sum_from face s (final_weight face s) k j) (later_neighbours face s k))
    × (final_weight face s j k ≡ least_over (sum_to face s (final_weight face s) k j) (later_neighbours face s k))

-- two networks that are the same but for own arcs: the same agents, points with owners, horizon and external arcs
pub record IsSameOutside (net other : Net) : Type 0 where
  pub agents : net.agents ≡ other.agents
  pub places : net.places ≡ other.places
  pub horizon : net.horizon ≡ other.horizon
  pub externals : external_arcs net ≡ external_arcs other

-- they have the same interface
abbrev pub InterfacesAgree : Type 0
InterfacesAgree = (net other : Net) → IsSameOutside net other → interface_of net ≡ interface_of other

-- so with the same summaries each entry is legal in both or in neither, for the same cause, and the replayed states are equal
abbrev pub ReplaysAgree : Type 0
ReplaysAgree =
    (net other : Net) → IsSameOutside net other
    → ((s : State) (e : Entry) → refusal (interface_of net) s e ≡ refusal (interface_of other) s e)
    × ((summaries : List Summary) (es : List Entry)
    → (replay (interface_of net) summaries start es ≡ replay (interface_of other) summaries start es)
    × (fault_of (interface_of net) summaries start 0 es ≡ fault_of (interface_of other) summaries start 0 es))

-- however steps fall: where one list of entries leads to a whole order, no other leads to a stop
abbrev pub StopsExcludeWholeOrders : Type 0
StopsExcludeWholeOrders =
    (face : InterfaceView) (summaries : List Summary) → IsInterface face → ((a : ℕ) → IsFitting face a (summary_of summaries a))
    → (es fs : List Entry) (s t : State) → replay face summaries start es ≡ Some s → replay face summaries start fs ≡ Some t
    → IsAllPublished face t → IsWhole face t → s.stop ≡ None

-- and two that do have the same least weights
abbrev pub WholeWeightsAgree : Type 0
WholeWeightsAgree =
    (face : InterfaceView) (summaries : List Summary) → IsInterface face → ((a : ℕ) → IsFitting face a (summary_of summaries a))
    → (es fs : List Entry) (s t : State) → replay face summaries start es ≡ Some s → replay face summaries start fs ≡ Some t
    → IsAllPublished face s → IsWhole face s → IsAllPublished face t → IsWhole face t
    → (i j : ℕ) → final_weight face s i j ≡ final_weight face t i j

-- what the steps do to forward cells and joined pairs: a publish lowers each cell to the least bound of the new arcs of the pair, and joins
-- pairs that have one
abbrev pub PublishesLower : Type 0
PublishesLower =
    (face : InterfaceView) (summaries : List Summary) → IsInterface face → ((a : ℕ) → IsFitting face a (summary_of summaries a))
    → (s : State) (e : Entry) (a : ℕ) → HoldsTogether face s → e.event ≡ Publish (agent_id a) → refusal face s e ≡ None
    → (i j : ℕ)
    → (forward face (after face summaries s (Publish (agent_id a))) i j
    ≡ lesser (forward face s i j) (bound_of (agent_arcs face (record { agent = a; entries = summary_of summaries a })) i j))
    × (is_joined face (after face summaries s (Publish (agent_id a))) i j
    ≡ (is_joined face s i j || (not (i == j) && has_edge (agent_arcs face (record { agent = a; entries = summary_of summaries a })) i j)))

-- an elimination lowers each cell between two points outside the order to the sum through the point, and joins them where both are joined with it
abbrev pub EliminationsLower : Type 0
EliminationsLower =
    (face : InterfaceView) (summaries : List Summary) (s : State) (k : ℕ) → is_in s.order k ≡ false → (i j : ℕ)
    → (forward face (after face summaries s (Eliminate (point_id k))) i j
    ≡ (if is_in (k ∷ s.order) i || is_in (k ∷ s.order) j then forward face s i j
    else lesser (forward face s i j) (sum_of (forward face s i k) (forward face s k j))))

-- two later neighbours of an eliminated point are joined
abbrev pub NeighboursJoin : Type 0
NeighboursJoin =
    (face : InterfaceView) (s : State) (k m j : ℕ) → is_in s.order k ≡ true → is_later face s k m ≡ true → is_later face s k j ≡ true → m ≢ j
    → is_joined face s m j ≡ true

-- a revisit makes the final cells between the point and its later neighbours, from its forward cells and the final cells that are there
abbrev pub RevisitsMake : Type 0
RevisitsMake =
    (face : InterfaceView) (summaries : List Summary) → IsInterface face → (s : State) → HoldsTogether face s
    → (k j : ℕ) → IsRevisit face s k → is_later face s k j ≡ true
    → (final face (after face summaries s (Revisit (point_id k))) k j ≡ least_over (sum_from face s (final face s) k j) (later_neighbours face s k))
    × (final face (after face summaries s (Revisit (point_id k))) j k ≡ least_over (sum_to face s (final face s) k j) (later_neighbours face s k))

-- joined points are those that have a path through points that the order, turned round, has before both
abbrev pub JoinedIsJoined : Type 0
JoinedIsJoined = (face : InterfaceView) (s : State) (i j : ℕ) → (is_joined face s i j ≡ true) ↔ IsJoined (meeting_of face s) (reverse s.order) i j

-- the entry at this place is illegal for this cause, and all before it are legal in their places
pub record IsFirstFault (face : InterfaceView) (summaries : List Summary) (es : List Entry) (f : Fault) : Type 0 where
  pub front : List Entry
  pub entry : Entry
  pub back : List Entry
  pub state : State
  pub whole : es ≡ front ++ entry ∷ back
  pub place : f.place ≡ length front
  pub before : replay face summaries start front ≡ Some state
  pub refused : refusal face state entry ≡ Some f.cause

-- entries replay, or have a fault, which is the first
abbrev pub FaultsAreFirst : Type 0
FaultsAreFirst =
    (face : InterfaceView) (summaries : List Summary) (es : List Entry)
    → (is_some (replay face summaries start es) ≡ not (is_some (fault_of face summaries start 0 es)))
    × ((f : Fault) → fault_of face summaries start 0 es ≡ Some f → IsFirstFault face summaries es f)

-- an elimination joins two points outside the order where both are joined with the point
abbrev pub EliminationsJoin : Type 0
EliminationsJoin =
    (face : InterfaceView) (summaries : List Summary) (s : State) (k : ℕ) → is_in s.order k ≡ false → (i j : ℕ)
    → is_joined face (after face summaries s (Eliminate (point_id k))) i j
    ≡ (if is_in (k ∷ s.order) i || is_in (k ∷ s.order) j then is_joined face s i j
    else is_joined face s i j || (not (i == j) && (is_joined face s i k && is_joined face s k j)))

-- a revisit keeps the final cells between other points
abbrev pub RevisitsKeep : Type 0
RevisitsKeep =
    (face : InterfaceView) (summaries : List Summary) (s : State) (k i j : ℕ) → i ≢ k → j ≢ k
    → final face (after face summaries s (Revisit (point_id k))) i j ≡ final face s i j

-- the pair of a stop, and of a refusal for a negative sum, is the least: of all points outside the order, whatever they are
abbrev pub LeastNegativesAreLeast : Type 0
LeastNegativesAreLeast =
    (face : InterfaceView) → IsInterface face → (s : State) → HoldsTogether face s → (k : ℕ)
    → (least_negative face s k ≡ None → (p : ℕ) → is_negative face s k p ≡ false)
    × ((i : ℕ) → least_negative face s k ≡ Some i → (is_negative face s k i ≡ true) × ((p : ℕ) → p < i → is_negative face s k p ≡ false))

-- so are the others that causes carry: the first shared point that passes a test, the first of z and the shared points, and the first agent are the
-- least that pass, and none passes where there is no first
abbrev pub FirstsAreLeast : Type 0
FirstsAreLeast =
    (face : InterfaceView) → IsInterface face → (test : ℕ → Bool)
    → (first_passing test (points_of face) ≡ None → (p : ℕ) → is_listed face p ≡ true → test p ≡ false)
    × ((i : ℕ) → first_passing test (points_of face) ≡ Some i
    → (is_listed face i ≡ true) × (test i ≡ true) × ((p : ℕ) → is_listed face p ≡ true → p < i → test p ≡ false))
    × ((i : ℕ) → first_passing test (0 ∷ points_of face) ≡ Some i
    → (test i ≡ true) × ((p : ℕ) → is_in (0 ∷ points_of face) p ≡ true → p < i → test p ≡ false))
    × ((n : ℕ) → first_below test n ≡ None → (a : ℕ) → a < n → test a ≡ false)
    × ((n i : ℕ) → first_below test n ≡ Some i → (i < n) × (test i ≡ true) × ((a : ℕ) → a < i → test a ≡ false))

-- the meeting arcs of a state that holds together join the places of z and the shared points, and weigh little, so that the steps of eliminations over
-- rows of cells are steps of it
abbrev pub StatesHaveGround : Type 0
StatesHaveGround =
    (face : InterfaceView) → IsInterface face → (s : State) → HoldsTogether face s → IsGround (0 ∷ points_of face) (meeting_of face s)

-- the interface of a network is one, and has exactly the shared points, with their owners in the network
abbrev pub InterfacesList : Type 0
InterfacesList =
    (net : Net) → IsNetwork net
    → IsInterface (interface_of net) × ((p : ℕ) → owner_in (interface_of net) p ≡ (if is_shared net p then owner_of net p else None))

-- two networks that are the same but for the private part of agent a
pub record IsSameBut (net other : Net) (a : ℕ) : Type 0 where
  pub outside : IsSameOutside net other
  pub own : (agent : ℕ) → agent ≢ a → own_arcs net agent ≡ own_arcs other agent

-- where no agent has an own conflict and the summary of a is right in both, the summaries that are right in one are right in the other
abbrev pub SummariesCarryOver : Type 0
SummariesCarryOver =
    (net other : Net) (a : ℕ) (summaries : List Summary) → IsSameBut net other a → ((agent : ℕ) (cycle : List ℕ) → IsOwnConflict other agent cycle → ⊥)
    → AreRight net summaries → IsSummary other a (map entry_of (summary_of summaries a)) → AreRight other summaries

-- where an elimination is refused for a negative sum, and only there, a stop is legal, with the same point
abbrev pub NegativesStop : Type 0
NegativesStop =
    (face : InterfaceView) (s : State) (by : By) (k i : ℕ)
    → (refusal face s (record { by = by; event = Eliminate (point_id k) }) ≡ Some (negative i)) ↔
    (refusal face s (record { by = by; event = Stop (point_id k) (point_id i) }) ≡ None)

-- without a stop the joiner may publish each agent that is not published, eliminate or stop at each point whose owner is, and revisit some point as
-- long as one is left
abbrev pub StepsGoOn : Type 0
StepsGoOn =
    (face : InterfaceView) → IsInterface face → (s : State) → HoldsTogether face s → s.stop ≡ None
    → ((a : ℕ) → a < length face.leans → is_published s a ≡ false → refusal face s (record { by = Joiner; event = Publish (agent_id a) }) ≡ None)
    × ((k : ℕ) → IsOwned face s k → is_in s.order k ≡ false
    → (refusal face s (record { by = Joiner; event = Eliminate (point_id k) }) ≡ None)
    ⊎ ((i : ℕ) × (refusal face s (record { by = Joiner; event = Stop (point_id k) (point_id i) }) ≡ None)))
    × (IsAllPublished face s → IsWhole face s → (k : ℕ) → is_listed face k ≡ true → is_in s.revisited k ≡ false
    → (m : ℕ) × (is_listed face m ≡ true) × (refusal face s (record { by = Joiner; event = Revisit (point_id m) }) ≡ None))

-- times and ends change no cell, no joined pair and nothing else of the state
pub record IsSameButTimes (face : InterfaceView) (s t : State) : Type 0 where
  pub published : t.published ≡ s.published
  pub order : t.order ≡ s.order
  pub stop : t.stop ≡ s.stop
  pub revisited : t.revisited ≡ s.revisited
  pub forwards : (i j : ℕ) → forward face t i j ≡ forward face s i j
  pub joins : (i j : ℕ) → is_joined face t i j ≡ is_joined face s i j
  pub finals : (i j : ℕ) → final face t i j ≡ final face s i j

abbrev pub TimesStandApart : Type 0
TimesStandApart =
    (face : InterfaceView) (summaries : List Summary) (s : State)
    → ((k : PointId) (value : ℤ) → IsSameButTimes face s (after face summaries s (Assign k value)))
    × ((k : PointId) (end : End) → IsSameButTimes face s (after face summaries s (Widen k end)))
