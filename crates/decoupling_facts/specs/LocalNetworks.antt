-- The decoupled network of an agent, its own arcs with the boxes of its shared points, and schedules of all agents' decoupled networks beside
-- each other (temporal decoupling: Boerkoel and Durfee 2013): is_boxed, upper_box, lower_box, IsBoxArc, AreBoxArcs, box_arcs, boxed_points,
-- decoupled_arcs, KeepsExternals, KeepsEach, at_owner, joint_time, joint_times, IsChosen, and the laws BoxArcsAreThere, JointTimesKeep,
-- JointSchedulesSatisfy, LocalNetworksAreConsistent.
use Rattle.std.specs.Prelude.{◌≡◌, ℕ, ◌<◌, Bool, true, ◌&&◌, ◌⊎◌, ℤ, pos, neg_ℤ, ◌-ℤ◌, ◌≤ℤ◌, List, [], ◌∷◌, ◌++◌, length, map, filter}
use Rattle.std.specs.Prelude.{Option, Some, None, Contains}
use Rattle.std.specs.List.{range_with_len}
use Rattle.stn_model.specs.declared.ids.Constraint.{Constraint}
use Rattle.stn_model.specs.Net.{Net, arcs_of, owner_of, point_count}
use Rattle.stn_model.specs.Kinds.{is_shared, is_owned_by}
use Rattle.stn_model.specs.Conflicts.{own_arcs, external_arcs}
use Rattle.stn_model.specs.Schedules.{Satisfies, IsConsistent, time_at}
use Rattle.stn_model.specs.Summaries.{Entry, IsSummary}
use Rattle.stn_model.specs.Valid.{IsNetwork}
use Rattle.decoupling_facts.specs.Boxes.{Ends}

-- a shared point of the agent
abbrev pub is_boxed : Net → ℕ → ℕ → Bool
is_boxed net agent p = is_owned_by net agent p && is_shared net p

-- the two arcs of a box: its point lies from lo to hi after z
abbrev pub upper_box : Ends → ℕ → Constraint
upper_box e k = record { from = record { 0 = 0 }; to = record { 0 = k }; bound = e.hi k }

abbrev pub lower_box : Ends → ℕ → Constraint
lower_box e k = record { from = record { 0 = k }; to = record { 0 = 0 }; bound = neg_ℤ (e.lo k) }

-- one of the two, of a shared point of the agent
abbrev pub IsBoxArc : Net → ℕ → Ends → Constraint → Type 0
IsBoxArc net agent e a = (k : ℕ) × (is_boxed net agent k ≡ true) × ((a ≡ upper_box e k) ⊎ (a ≡ lower_box e k))

-- the arcs of the boxes of all shared points of the agent, and no others, in any order
pub record AreBoxArcs (net : Net) (agent : ℕ) (e : Ends) (box : List Constraint) : Type 0 where
  pub each : (a : Constraint) → Contains box a → IsBoxArc net agent e a
  pub upper : (k : ℕ) → is_boxed net agent k ≡ true → Contains box (upper_box e k)
  pub lower : (k : ℕ) → is_boxed net agent k ≡ true → Contains box (lower_box e k)

-- the arcs of the boxes of these points
abbrev pub box_arcs : Ends → List ℕ → List Constraint
box_arcs e [] = []
box_arcs e (k ∷ ks) = upper_box e k ∷ lower_box e k ∷ box_arcs e ks

-- the shared points of the agent, by number
abbrev pub boxed_points : Net → ℕ → List ℕ
boxed_points net agent = filter (is_boxed net agent) (range_with_len 0 (point_count net))

-- the arcs of its decoupled network: its own ones, and those of its boxes
abbrev pub decoupled_arcs : Net → ℕ → Ends → List Constraint
decoupled_arcs net agent e = own_arcs net agent ++ box_arcs e (boxed_points net agent)

-- the boxes keep the external arcs: from any time in the one box to any in the other lies at most the bound
abbrev pub KeepsExternals : Net → Ends → Type 0
KeepsExternals net e = (a : Constraint) → Contains (external_arcs net) a → (e.hi a.to.0 -ℤ e.lo a.from.0) ≤ℤ a.bound

-- times keep each arc of the list
abbrev pub KeepsEach : List Constraint → (ℕ → ℤ) → Type 0
KeepsEach arcs time = (a : Constraint) → Contains arcs a → (time a.to.0 -ℤ time a.from.0) ≤ℤ a.bound

-- each point at the time that its owner gives it, and z at 0
abbrev pub at_owner : (ℕ → ℕ → ℤ) → ℕ → Option ℕ → ℤ
at_owner times p None = pos 0
at_owner times p (Some agent) = times agent p

abbrev pub joint_time : Net → (ℕ → ℕ → ℤ) → ℕ → ℤ
joint_time net times p = at_owner times p (owner_of net p)

-- the same as a list, from one schedule for each agent
abbrev pub joint_times : Net → (ℕ → List ℤ) → List ℤ
joint_times net schedules = map (joint_time net (λ agent. time_at (schedules agent))) (range_with_len 0 (point_count net))

-- the agent's times, z at 0, keep its own arcs and its boxes
pub record IsChosen (net : Net) (agent : ℕ) (e : Ends) (box : List Constraint) (time : ℕ → ℤ) : Type 0 where
  pub arcs : AreBoxArcs net agent e box
  pub first : time 0 ≡ pos 0
  pub keeps : KeepsEach (own_arcs net agent ++ box) time

-- the arcs of the boxes of a list of all shared points of the agent are those of its boxes, and such a list is there
abbrev pub BoxArcsAreThere : Type 0
BoxArcsAreThere =
    (net : Net) (agent : ℕ) (e : Ends)
    → ((ks : List ℕ) → ((k : ℕ) → Contains ks k → is_boxed net agent k ≡ true) → ((k : ℕ) → is_boxed net agent k ≡ true → Contains ks k)
    → AreBoxArcs net agent e (box_arcs e ks))
    × AreBoxArcs net agent e (box_arcs e (boxed_points net agent))

-- times that the agents choose apart, each within its decoupled network, together keep all arcs of the network
abbrev pub JointTimesKeep : Type 0
JointTimesKeep =
    (net : Net) → IsNetwork net → (e : Ends) → KeepsExternals net e
    → (boxes : ℕ → List Constraint) (times : ℕ → ℕ → ℤ) → ((agent : ℕ) → agent < length net.agents → IsChosen net agent e (boxes agent) (times agent))
    → KeepsEach (arcs_of net) (joint_time net times)

-- the same of schedules
abbrev pub JointSchedulesSatisfy : Type 0
JointSchedulesSatisfy =
    (net : Net) → IsNetwork net → (e : Ends) → KeepsExternals net e → (schedules : ℕ → List ℤ)
    → ((agent : ℕ) → agent < length net.agents → Satisfies (point_count net) (decoupled_arcs net agent e) (schedules agent))
    → Satisfies (point_count net) (arcs_of net) (joint_times net schedules)

-- the decoupled network of an agent is consistent, where some times keep its summary and lie in its boxes
abbrev pub LocalNetworksAreConsistent : Type 0
LocalNetworksAreConsistent =
    (net : Net) → IsNetwork net → (agent : ℕ) (entries : List Entry) → IsSummary net agent entries
    → (value : ℕ → ℤ) (e : Ends) → value 0 ≡ pos 0
    → ((entry : Entry) → Contains entries entry → (value entry.to -ℤ value entry.from) ≤ℤ entry.weight)
    → ((k : ℕ) → is_boxed net agent k ≡ true → (e.lo k ≤ℤ value k) × (value k ≤ℤ e.hi k))
    → (box : List Constraint) → ((a : Constraint) → Contains box a → IsBoxArc net agent e a)
    → IsConsistent (point_count net) (own_arcs net agent ++ box)
