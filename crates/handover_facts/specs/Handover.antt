-- What is true of the network of a handover: ann_entries, refused, numbers, order, HandoverHolds.
-- Ann works from a1 to a2 and hands over to Bob, who works from b1 to b2.
use Rattle.std.specs.Prelude.{◌≡◌, ℕ, Bool, ℤ, pos, neg_ℤ, List, [], ◌∷◌, ◌++◌, ◌+◌, take, drop, if◌then◌else◌, Some, None}
use Rattle.stn_model.specs.declared.ids.Constraint.{Constraint}
use Rattle.stn_model.specs.declared.ids.Kind.TheVariants.{Reference, Private, Shared}
use Rattle.stn_model.specs.declared.ids.Lean.TheVariants.{Early}
use Rattle.stn_model.specs.Net.{Net, arcs_of, owner_of, point_count}
use Rattle.stn_model.specs.Kinds.{kind_of, is_own, is_external}
use Rattle.stn_model.specs.Joined.{joined_order, IsJoined, IsLaterNeighbour}
use Rattle.stn_model.specs.Walks.{IsNegativeCycle, IsNormal}
use Rattle.stn_model.specs.Schedules.{IsConsistent, IsLeastBound}
use Rattle.stn_model.specs.Valid.{IsNetwork}
use Rattle.stn_model.specs.Summaries.{IsSummary, Entry}
use Rattle.sample_nets.specs.Samples.{arc, handover}

-- what ann's part means to the others
abbrev pub ann_entries : List Entry
ann_entries = record { from = 0; to = 2; weight = pos 60 } ∷ record { from = 2; to = 0; weight = neg_ℤ (pos 30) } ∷ []

-- the network with b1 at most 20 after z, as arc 15
abbrev pub refused : Net
refused = record handover { given = handover.given ++ arc 0 3 (pos 20) ∷ [] }

-- the numbers of the arcs that pass the test, where the list begins with number n
abbrev pub numbers : (Constraint → Bool) → ℕ → List Constraint → List ℕ
numbers test n [] = []
numbers test n (a ∷ arcs) = if test a then n ∷ numbers test (n + 1) arcs else numbers test (n + 1) arcs

-- each agent's private point, then the shared points, then z
abbrev pub order : List ℕ
order = joined_order ((1 ∷ []) ∷ (4 ∷ []) ∷ []) (2 ∷ 3 ∷ [])

-- what the definitions say of the two networks
pub record HandoverHolds : Type 0 where
  pub network : IsNetwork handover
  pub first_arcs : take 8 (arcs_of handover)
      ≡ arc 0 1 (pos 100) ∷ arc 1 0 (pos 0) ∷ arc 0 2 (pos 100) ∷ arc 2 0 (pos 0)
      ∷ arc 0 3 (pos 100) ∷ arc 3 0 (pos 0) ∷ arc 0 4 (pos 100) ∷ arc 4 0 (pos 0) ∷ []
  pub given_arcs : drop 8 (arcs_of handover) ≡ handover.given
  pub own_of_ann : numbers (is_own handover 0) 0 (arcs_of handover) ≡ 0 ∷ 1 ∷ 2 ∷ 3 ∷ 8 ∷ 9 ∷ 10 ∷ []
  pub own_of_bob : numbers (is_own handover 1) 0 (arcs_of handover) ≡ 4 ∷ 5 ∷ 6 ∷ 7 ∷ 13 ∷ 14 ∷ []
  pub external : numbers (is_external handover) 0 (arcs_of handover) ≡ 11 ∷ 12 ∷ []
  pub z_reference : kind_of handover 0 ≡ Reference
  pub a1_private : kind_of handover 1 ≡ Private
  pub a2_shared : kind_of handover 2 ≡ Shared
  pub b1_shared : kind_of handover 3 ≡ Shared
  pub b2_private : kind_of handover 4 ≡ Private
  pub z_unowned : owner_of handover 0 ≡ None
  pub a2_owner : owner_of handover 2 ≡ Some 0
  pub b1_owner : owner_of handover 3 ≡ Some 1
  pub latest_b1 : IsLeastBound (point_count handover) (arcs_of handover) 0 3 (pos 65)
  pub earliest_b1 : IsLeastBound (point_count handover) (arcs_of handover) 3 0 (neg_ℤ (pos 30))
  pub cycle : IsNegativeCycle (arcs_of refused) (1 ∷ 15 ∷ 12 ∷ 10 ∷ [])
  pub cycle_normal : IsNormal (1 ∷ 15 ∷ 12 ∷ 10 ∷ [])
  pub inconsistent : IsConsistent (point_count refused) (arcs_of refused) → ⊥
  pub summary : IsSummary handover 0 ann_entries
  pub joined : IsJoined (arcs_of handover) order 2 3
  pub later : IsLaterNeighbour (arcs_of handover) order 1 2
  pub not_joined : IsJoined (arcs_of handover) order 1 4 → ⊥
