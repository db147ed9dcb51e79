-- Decouplings of a network (temporal decoupling: Boerkoel and Durfee 2013), and what keeps the ends of boxes from going on: IsDecoupling,
-- IsTightIn, setting_of, MeetsHigh, MeetsLow, IsFirstMet, IsBlocker, and the laws WidenedIsDecoupling, StandingDecouples, DecouplingsSatisfy,
-- DecoupledIsConsistent, TightEndsHaveBlockers.
use Rattle.std.specs.Prelude.{◌≡◌, ◌≢◌, ℕ, ◌<◌, Bool, true, false, ◌⊎◌, Option, Some, None, ℤ, pos, neg_ℤ, ◌+ℤ◌, ◌-ℤ◌, ◌≤ℤ◌, List, length, Contains}
use Rattle.std.specs.List.{AllByRecursion}
use Rattle.stn_model.specs.declared.ids.Constraint.{Constraint}
use Rattle.stn_model.specs.Net.{Net, arcs_of, point_count}
use Rattle.stn_model.specs.Kinds.{is_external, is_shared}
use Rattle.stn_model.specs.Conflicts.{external_arcs}
use Rattle.stn_model.specs.Arcs.{arc_at}
use Rattle.stn_model.specs.Schedules.{Satisfies, IsConsistent, IsLeastBound}
use Rattle.stn_model.specs.Summaries.{Entry}
use Rattle.stn_model.specs.Valid.{IsNetwork}
use Rattle.meeting_arcs.specs.Meeting.{IsMeeting, AreSummaries}
use Rattle.decoupling_facts.specs.FinalBounds.{AreFinals, KeepsFinals}
use Rattle.decoupling_facts.specs.Boxes.{Ends, IsTightEnd, WidensAll}
use Rattle.decoupling_facts.specs.Assignments.{Setting, IsSetting, Assignments, Stands, AreAllSet}
use Rattle.decoupling_facts.specs.LocalNetworks.{KeepsExternals, decoupled_arcs, joint_times}

-- the box of each shared point is not empty and lies within the least bounds with z, the boxes keep the external arcs, and the decoupled network
-- of each agent is consistent
pub record IsDecoupling (net : Net) (e : Ends) : Type 0 where
  pub low : (k : ℕ) → is_shared net k ≡ true → (b : ℤ) → IsLeastBound (point_count net) (arcs_of net) k 0 b → neg_ℤ b ≤ℤ e.lo k
  pub ordered : (k : ℕ) → is_shared net k ≡ true → e.lo k ≤ℤ e.hi k
  pub high : (k : ℕ) → is_shared net k ≡ true → (b : ℤ) → IsLeastBound (point_count net) (arcs_of net) 0 k b → e.hi k ≤ℤ b
  pub apart : KeepsExternals net e
  pub consistent : (agent : ℕ) → agent < length net.agents → IsConsistent (point_count net) (decoupled_arcs net agent e)

-- the end meets its least bound with z, or the bound of an external arc
abbrev pub IsTightIn : Net → Ends → ℕ × Bool → Type 0
IsTightIn net e (k, true) =
    IsLeastBound (point_count net) (arcs_of net) 0 k (e.hi k)
    ⊎ ((a : Constraint) × Contains (external_arcs net) a × (a.to.0 ≡ k) × (e.hi k ≡ e.lo a.from.0 +ℤ a.bound))
IsTightIn net e (k, false) =
    ((b : ℤ) × IsLeastBound (point_count net) (arcs_of net) k 0 b × (e.lo k ≡ neg_ℤ b))
    ⊎ ((a : Constraint) × Contains (external_arcs net) a × (a.from.0 ≡ k) × (e.lo k ≡ e.hi a.to.0 -ℤ a.bound))

-- where times of all shared points keep the final bounds over the meeting arcs, and ends of their boxes are widened from the times on, in any
-- order, a decoupling is left in which each of these ends is tight
abbrev pub WidenedIsDecoupling : Type 0
WidenedIsDecoupling =
    (net : Net) → IsNetwork net
    → (summaries : List (List Entry)) → AreSummaries net summaries → (arcs : List Constraint) → IsMeeting net summaries arcs
    → (joined : ℕ → ℕ → Bool) (final : ℕ → ℕ → ℤ) → AreFinals arcs joined final → ((k : ℕ) → is_shared net k ≡ true → joined k 0 ≡ true)
    → (is_set : ℕ → Bool) (value : ℕ → ℤ) → value 0 ≡ pos 0 → is_set 0 ≡ true → ((k : ℕ) → is_shared net k ≡ true → is_set k ≡ true)
    → KeepsFinals joined final is_set value
    → (e f : Ends) → ((k : ℕ) → is_shared net k ≡ true → (e.lo k ≡ value k) × (e.hi k ≡ value k))
    → (ws : List (ℕ × Bool)) → AllByRecursion (λ w. is_shared net w.0 ≡ true) ws → WidensAll final (external_arcs net) ws e f
    → IsDecoupling net f × AllByRecursion (IsTightIn net f) ws

-- the external arcs and the shared points of a network
abbrev pub setting_of : Net → List Constraint → List ℕ → (ℕ → ℕ → Bool) → (ℕ → ℕ → ℤ) → Setting
setting_of net arcs order joined final =
    record { arcs = arcs; order = order; joined = joined; final = final; externals = external_arcs net; shared = is_shared net }

-- what stands with times for all shared points is a decoupling, and each widened end is tight
abbrev pub StandingDecouples : Type 0
StandingDecouples =
    (net : Net) → IsNetwork net
    → (summaries : List (List Entry)) → AreSummaries net summaries → (arcs : List Constraint) → IsMeeting net summaries arcs
    → (order : List ℕ) (joined : ℕ → ℕ → Bool) (final : ℕ → ℕ → ℤ) → IsSetting (setting_of net arcs order joined final)
    → (s : Assignments) → Stands (setting_of net arcs order joined final) s → AreAllSet (setting_of net arcs order joined final) s
    → IsDecoupling net s.ends × ((w : ℕ × Bool) → is_shared net w.0 ≡ true → s.wide w ≡ true → IsTightIn net s.ends w)

-- one schedule for each agent, of its decoupled network, together make a schedule of the network
abbrev pub DecouplingsSatisfy : Type 0
DecouplingsSatisfy =
    (net : Net) → IsNetwork net → (e : Ends) → IsDecoupling net e → (schedules : ℕ → List ℤ)
    → ((agent : ℕ) → agent < length net.agents → Satisfies (point_count net) (decoupled_arcs net agent e) (schedules agent))
    → Satisfies (point_count net) (arcs_of net) (joint_times net schedules)

-- so a network that has a decoupling is consistent
abbrev pub DecoupledIsConsistent : Type 0
DecoupledIsConsistent = (net : Net) → IsNetwork net → (e : Ends) → IsDecoupling net e → IsConsistent (point_count net) (arcs_of net)

-- an external arc that ends at k, or begins there, and which the ends of the boxes meet exactly
pub record MeetsHigh (net : Net) (e : Ends) (k : ℕ) (a : Constraint) : Type 0 where
  pub external : is_external net a ≡ true
  pub at : a.to.0 ≡ k
  pub met : e.hi k ≡ e.lo a.from.0 +ℤ a.bound

pub record MeetsLow (net : Net) (e : Ends) (k : ℕ) (a : Constraint) : Type 0 where
  pub external : is_external net a ≡ true
  pub at : a.from.0 ≡ k
  pub met : e.lo k ≡ e.hi a.to.0 -ℤ a.bound

-- the first arc of the list, by number, of this kind
pub record IsFirstMet (Met : Constraint → Type 0) (arcs : List Constraint) (n : ℕ) : Type 0 where
  pub known : n < length arcs
  pub here : Met (arc_at arcs n)
  pub least : (m : ℕ) → m < n → Met (arc_at arcs m) → ⊥

-- what keeps an end from going on: none besides its bound with z, where it is there, and else the first external arc that it meets
abbrev pub IsBlocker : Net → (ℕ → ℕ → ℤ) → Ends → ℕ × Bool → Option ℕ → Type 0
IsBlocker net final e (k, true) None = e.hi k ≡ final 0 k
IsBlocker net final e (k, true) (Some n) = (e.hi k ≢ final 0 k) × IsFirstMet (MeetsHigh net e k) (arcs_of net) n
IsBlocker net final e (k, false) None = e.lo k ≡ neg_ℤ (final k 0)
IsBlocker net final e (k, false) (Some n) = (e.lo k ≢ neg_ℤ (final k 0)) × IsFirstMet (MeetsLow net e k) (arcs_of net) n

-- each tight end has its blocker, and no other
abbrev pub TightEndsHaveBlockers : Type 0
TightEndsHaveBlockers =
    (net : Net) (final : ℕ → ℕ → ℤ) (e : Ends) (w : ℕ × Bool) → IsTightEnd final (external_arcs net) e w
    → ((o : Option ℕ) × IsBlocker net final e w o) × ((o r : Option ℕ) → IsBlocker net final e w o → IsBlocker net final e w r → o ≡ r)
