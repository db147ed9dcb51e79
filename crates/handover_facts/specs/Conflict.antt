-- A network with an own conflict, and with a negative cycle of own arcs that is none: torn, ConflictHolds.
-- Agent 0 has p (1), r (2) and q (3), of which r is private; agent 1 has s (4).
use Rattle.std.specs.Prelude.{◌≡◌, pos, neg_ℤ, IsTrue, List, [], ◌∷◌}
use Rattle.std.specs.List.{AllByRecursion}
use Rattle.stn_model.specs.declared.ids.Kind.TheVariants.{Private, Shared}
use Rattle.stn_model.specs.Arcs.{arc_at}
use Rattle.stn_model.specs.Net.{Net, arcs_of}
use Rattle.stn_model.specs.Kinds.{kind_of, is_own}
use Rattle.stn_model.specs.Walks.{IsNegativeCycle, IsNormal}
use Rattle.stn_model.specs.Conflicts.{IsOwnConflict}
use Rattle.stn_model.specs.Summaries.{IsSummary, Entry}
use Rattle.sample_nets.specs.Samples.{arc}
use Rattle.handover_facts.specs.Detour.{detour}

-- arcs 8 and 9 go round p and q, which are shared; arcs 10 and 11 round p and r
abbrev pub torn : Net
torn = record detour {
  given = arc 1 3 (pos 2) ∷ arc 3 1 (neg_ℤ (pos 3)) ∷ arc 1 2 (pos 1) ∷ arc 2 1 (neg_ℤ (pos 2)) ∷ arc 1 4 (pos 5) ∷ arc 4 3 (pos 5) ∷ [];
}

-- what the definitions say of it
pub record ConflictHolds : Type 0 where
  pub p_shared : kind_of torn 1 ≡ Shared
  pub r_private : kind_of torn 2 ≡ Private
  pub q_shared : kind_of torn 3 ≡ Shared
  pub conflict : IsOwnConflict torn 0 (10 ∷ 11 ∷ [])
  pub conflict_normal : IsNormal (10 ∷ 11 ∷ [])
  pub between_shared : IsNegativeCycle (arcs_of torn) (8 ∷ 9 ∷ [])
  pub between_shared_own : AllByRecursion (λ n. IsTrue (is_own torn 0 (arc_at (arcs_of torn) n))) (8 ∷ 9 ∷ [])
  pub between_shared_none : IsOwnConflict torn 0 (8 ∷ 9 ∷ []) → ⊥
  pub no_summary : (entries : List Entry) → IsSummary torn 0 entries → ⊥
  pub other_agent : IsOwnConflict torn 1 (10 ∷ 11 ∷ []) → ⊥
