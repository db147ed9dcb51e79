-- What meeting arcs say of a network: ConflictsAreAll, MeetingArcsMeet, OfSome, OfAll, MeetingArcsJoin, PublishedAreEntries,
-- MeetingArcsExpand, MeetingWalksExpand, MeetingWalksHaveNumbers, NegativesExpand, FailingCellsExpand, WalksContract, NegativesContract,
-- MeetingDecides, OrderDecides, LeastWeightsAgree, LeastWeightsAreBounds.
use Rattle.std.specs.Prelude.{◌≡◌, ◌≢◌, ◌↔◌, ℕ, ◌<◌, ℤ, pos, ◌+ℤ◌, ◌<ℤ◌, Bool, true, Option, Some, List, [], length, slice_index_or, Contains, ◌⊎◌}
use Rattle.stn_model.specs.declared.ids.Constraint.{Constraint}
use Rattle.stn_model.specs.Net.{Net, arcs_of, point_count}
use Rattle.stn_model.specs.Valid.{IsNetwork}
use Rattle.stn_model.specs.Kinds.{is_private_of}
use Rattle.stn_model.specs.Conflicts.{own_arcs, IsOwnConflict}
use Rattle.stn_model.specs.Walks.{IsWalk, IsNegativeCycle, weight}
use Rattle.stn_model.specs.ArcWalks.{IsArcWalk, IsInnerLeast, NoNegative, arcs_weight}
use Rattle.stn_model.specs.Schedules.{IsConsistent, IsLeastBound}
use Rattle.stn_model.specs.Summaries.{Entry, IsSummary}
use Rattle.stn_walk.specs.Eliminations.{is_in}
use Rattle.meeting_arcs.specs.Sides.{HasWalk, HasLightWalk, NegativeClosed}
use Rattle.meeting_arcs.specs.Meeting.{meets, meeting_arcs, HasOnlyMeeting, IsMeeting, AreEntries, AreSummaries}

-- an agent without an own conflict has no negative closed walk of own arcs whose points but at most one are private
abbrev pub ConflictsAreAll : Type 0
ConflictsAreAll =
    (net : Net) (agent : ℕ) → ((cycle : List ℕ) → IsOwnConflict net agent cycle → ⊥) → NoNegative (is_private_of net agent) (own_arcs net agent)

-- the list of all meeting arcs is one of meeting arcs
abbrev pub MeetingArcsMeet : Type 0
MeetingArcsMeet = (net : Net) (summaries : List (List Entry)) → IsMeeting net summaries (meeting_arcs net summaries)

-- the premises of the laws below: some of the meeting arcs, of entries that are right; and all of them, of right summaries
abbrev pub OfSome : (Net → List Constraint → Type 0) → Type 0
OfSome holds =
    (net : Net) → IsNetwork net → (summaries : List (List Entry)) → AreEntries net summaries
    → (meeting : List Constraint) → HasOnlyMeeting net summaries meeting → holds net meeting

abbrev pub OfAll : (Net → List Constraint → Type 0) → Type 0
OfAll holds =
    (net : Net) → IsNetwork net → (summaries : List (List Entry)) → AreSummaries net summaries
    → (meeting : List Constraint) → IsMeeting net summaries meeting → holds net meeting

-- meeting arcs join different points, each z or shared
abbrev pub MeetingArcsJoin : Type 0
MeetingArcsJoin = OfSome (λ net meeting. (a : Constraint) → Contains meeting a → (meets net a.from.0 ≡ true) × (meets net a.to.0 ≡ true) × (a.from.0 ≢ a.to.0))

-- the entries are right where each agent has its summary, or none yet
abbrev pub PublishedAreEntries : Type 0
PublishedAreEntries =
    (net : Net) (summaries : List (List Entry))
    → ((agent : ℕ) → agent < length summaries → (slice_index_or summaries agent [] ≡ []) ⊎ IsSummary net agent (slice_index_or summaries agent []))
    → AreEntries net summaries

-- each meeting arc has a walk of the network between its ends, of its weight
abbrev pub MeetingArcsExpand : Type 0
MeetingArcsExpand = OfSome (λ net meeting. (a : Constraint) → Contains meeting a → HasWalk (arcs_of net) a.from.0 a.to.0 a.bound)

-- and so has each walk of meeting arcs
abbrev pub MeetingWalksExpand : Type 0
MeetingWalksExpand =
    OfSome (λ net meeting. (i j : ℕ) (w : List Constraint) → IsArcWalk meeting i j w → HasWalk (arcs_of net) i j (arcs_weight w))

-- by the numbers of the network's arcs too
abbrev pub MeetingWalksHaveNumbers : Type 0
MeetingWalksHaveNumbers =
    OfSome (λ net meeting. (i j : ℕ) (w : List Constraint) → IsArcWalk meeting i j w
    → (ns : List ℕ) × IsWalk (arcs_of net) i j ns × (weight (arcs_of net) ns ≡ arcs_weight w))

-- a negative closed walk of meeting arcs shows a negative cycle of the network, which no schedule satisfies
abbrev pub NegativesExpand : Type 0
NegativesExpand =
    OfSome (λ net meeting. NegativeClosed meeting
    → NegativeClosed (arcs_of net) × ((cycle : List ℕ) × IsNegativeCycle (arcs_of net) cycle) × (IsConsistent (point_count net) (arcs_of net) → ⊥))

-- so do two least weights through some points, there and back, that sum below 0: the cells of an elimination that fails
abbrev pub FailingCellsExpand : Type 0
FailingCellsExpand =
    OfSome (λ net meeting. (inner : ℕ → Bool) (p q : ℕ) (a b : ℤ) → IsInnerLeast inner meeting p q (Some a) → IsInnerLeast inner meeting q p (Some b)
    → (a +ℤ b) <ℤ pos 0 → NegativeClosed meeting × (IsConsistent (point_count net) (arcs_of net) → ⊥))

-- each walk of the network between z and shared points has a walk of meeting arcs between its ends that is no heavier
abbrev pub WalksContract : Type 0
WalksContract =
    OfAll (λ net meeting. (i j : ℕ) (w : List Constraint) → meets net i ≡ true → meets net j ≡ true → IsArcWalk (arcs_of net) i j w
    → HasLightWalk meeting i j (arcs_weight w))

-- a negative closed walk of the network gives one of meeting arcs
abbrev pub NegativesContract : Type 0
NegativesContract = OfAll (λ net meeting. NegativeClosed (arcs_of net) → NegativeClosed meeting)

-- some schedule satisfies the network exactly where no closed walk of meeting arcs is negative
abbrev pub MeetingDecides : Type 0
MeetingDecides = OfAll (λ net meeting. NoNegative (λ _. true) meeting ↔ IsConsistent (point_count net) (arcs_of net))

-- exactly where none is negative that passes only points of an order between its ends, once the order has all shared points
abbrev pub OrderDecides : Type 0
OrderDecides =
    OfAll (λ net meeting. (order : List ℕ) → ((p : ℕ) → meets net p ≡ true → p ≢ 0 → is_in order p ≡ true)
    → NoNegative (is_in order) meeting ↔ IsConsistent (point_count net) (arcs_of net))

-- least weights between different points among z and the shared points are the same over meeting arcs and over the network
abbrev pub LeastWeightsAgree : Type 0
LeastWeightsAgree =
    OfAll (λ net meeting. (i j : ℕ) (o : Option ℤ) → meets net i ≡ true → meets net j ≡ true → i ≢ j
    → IsInnerLeast (λ _. true) meeting i j o ↔ IsInnerLeast (λ _. true) (arcs_of net) i j o)

-- so the least weights of walks of meeting arcs are the least bounds of the network
abbrev pub LeastWeightsAreBounds : Type 0
LeastWeightsAreBounds =
    OfAll (λ net meeting. IsConsistent (point_count net) (arcs_of net)
    → (i j : ℕ) (b : ℤ) → meets net i ≡ true → meets net j ≡ true → i ≢ j
    → IsInnerLeast (λ _. true) meeting i j (Some b) ↔ IsLeastBound (point_count net) (arcs_of net) i j b)
