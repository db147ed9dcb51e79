-- Two networks with a pair of points that is joined by fill alone: detour, detour_entries, detour_order, late_order, far, far_entries, DetourHolds.
-- Agent 0 has p (1), r (2) and q (3), and p and q are joined by way of r; agent 1 has s (4).
use Rattle.std.specs.Prelude.{◌≡◌, pos, ℕ, List, [], ◌∷◌, Some}
use Rattle.stn_model.specs.declared.ids.Kind.TheVariants.{Private, Shared}
use Rattle.stn_model.specs.declared.ids.Lean.TheVariants.{Late}
use Rattle.stn_model.specs.Net.{Net, arcs_of}
use Rattle.stn_model.specs.Kinds.{kind_of, is_private_of}
use Rattle.stn_model.specs.Conflicts.{own_arcs}
use Rattle.stn_model.specs.Inner.{IsInnerWeight}
use Rattle.stn_model.specs.Joined.{joined_order, HasEdge, IsJoined}
use Rattle.stn_model.specs.Summaries.{IsSummary, Entry}
use Rattle.sample_nets.specs.Samples.{arc}

abbrev pub detour : Net
detour = record {
  horizon = pos 10;
  agents = record { name = 97 ∷ []; lean = Late } ∷ record { name = 98 ∷ []; lean = Late } ∷ [];
  places = record { name = 112 ∷ []; owner = 0 } ∷ record { name = 114 ∷ []; owner = 0 } ∷ record { name = 113 ∷ []; owner = 0 }
      ∷ record { name = 115 ∷ []; owner = 1 } ∷ [];
  acts = [];
  given = arc 1 2 (pos 3) ∷ arc 2 3 (pos 4) ∷ arc 1 4 (pos 1) ∷ arc 3 4 (pos 1) ∷ [];
}

-- from q to p no walk leads through r alone, so the entry is the horizon
abbrev pub detour_entries : List Entry
detour_entries =
    record { from = 0; to = 1; weight = pos 10 } ∷ record { from = 0; to = 3; weight = pos 10 } ∷ record { from = 1; to = 0; weight = pos 0 }
    ∷ record { from = 1; to = 3; weight = pos 7 } ∷ record { from = 3; to = 0; weight = pos 0 } ∷ record { from = 3; to = 1; weight = pos 10 } ∷ []

-- r, which is private, then p, q and s, and z
abbrev pub detour_order : List ℕ
detour_order = joined_order ((2 ∷ []) ∷ [] ∷ []) (1 ∷ 3 ∷ 4 ∷ [])

-- an order in which r comes after p and q
abbrev pub late_order : List ℕ
late_order = joined_order ([] ∷ [] ∷ []) (1 ∷ 3 ∷ 2 ∷ 4 ∷ [])

-- the same with a longer way from r to q, so that the walk from p to q weighs 11, which is above the horizon
abbrev pub far : Net
far = record detour { given = arc 1 2 (pos 3) ∷ arc 2 3 (pos 8) ∷ arc 1 4 (pos 1) ∷ arc 3 4 (pos 1) ∷ [] }

-- so here the entry from p to q is the horizon too
abbrev pub far_entries : List Entry
far_entries =
    record { from = 0; to = 1; weight = pos 10 } ∷ record { from = 0; to = 3; weight = pos 10 } ∷ record { from = 1; to = 0; weight = pos 0 }
    ∷ record { from = 1; to = 3; weight = pos 10 } ∷ record { from = 3; to = 0; weight = pos 0 } ∷ record { from = 3; to = 1; weight = pos 10 } ∷ []

-- what the definitions say of the two networks
pub record DetourHolds : Type 0 where
  pub p_shared : kind_of detour 1 ≡ Shared
  pub r_private : kind_of detour 2 ≡ Private
  pub q_shared : kind_of detour 3 ≡ Shared
  pub summary : IsSummary detour 0 detour_entries
  pub no_arc_between : HasEdge (arcs_of detour) 1 3 → ⊥
  pub joined_by_fill : IsJoined (arcs_of detour) detour_order 1 3
  pub not_before_r : IsJoined (arcs_of detour) late_order 1 3 → ⊥
  pub far_weight : IsInnerWeight (is_private_of far 0) (own_arcs far 0) 1 3 (Some (pos 11))
  pub far_summary : IsSummary far 0 far_entries
