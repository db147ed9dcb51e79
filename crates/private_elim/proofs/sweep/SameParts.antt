-- Back sweeps of the same part in the same order agree.
--   private_same, part_same, pair_same   what is said of a part holds of the same part with other numbers of its arcs
--   least_same                           optional bounds that are both least where one is there, are one
--   sweeps_same                          the bounds agree
use Rattle.std.proofs.Common.{◌≡◌, ℕ, Bool, true, ◌||◌, List, map, Option, Some, None, refl, sym, ap, subst, ◌∙◌}
use Rattle.std.specs.Prelude.{ℤ, is_some}
use Rattle.stn_model.specs.Kinds.{is_shared}
use Rattle.stn_model.specs.Conflicts.{own_arcs}
use Rattle.stn_model.specs.Joined.{IsJoined}
use Rattle.stn_model.specs.Net.{Net, arcs_of, point_count}
use Rattle.stn_model.specs.Valid.{IsNetwork}
use Rattle.stn_model.proofs.WalkLemmas.{least_bound_unique}
use Rattle.elim_step.specs.declared.summary.SummaryEntry.{SummaryEntry}
use Rattle.private_elim.specs.Laws.{IsSamePart, AreSwept}
use Rattle.private_elim.specs.Locals.{points_of, arcs_in, is_private_in}
use Rattle.private_elim.specs.ReducedViews.{ReducedView}
use Rattle.private_elim.specs.Parts.{HasPart}
use Rattle.private_elim.specs.Backs.{IsPrivatePair, HoldsFinals, IsLeastIn}

module _ (r s : ReducedView) (same : IsSamePart r s) where
  -- which points are private
  private_same : (p : ℕ) → is_private_in r.local p ≡ is_private_in s.local p
  private_same p =
      ap {B = Bool} (λ ps. is_private_in (record { agent = r.local.agent; points = ps; shared = r.local.shared; arcs = r.local.arcs }) p) same.points
      ∙ ap {B = Bool} (λ bs. is_private_in (record { agent = r.local.agent; points = s.local.points; shared = bs; arcs = r.local.arcs }) p) same.shared

  -- which networks have the part
  part_same : (net : Net) → HasPart net r.local → HasPart net s.local
  part_same net part = record {
    points = sym same.points ∙ part.points ∙ ap (points_of net) same.agent;
    shared = sym same.shared ∙ part.shared ∙ ap (λ agent. map (is_shared net) (points_of net agent)) same.agent;
    arcs = sym same.arcs ∙ part.arcs ∙ ap (own_arcs net) same.agent;
  }

  -- which pairs are joined, one of them private
  pair_same : (i j : ℕ) → IsPrivatePair r i j → IsPrivatePair s i j
  pair_same i j pair = record {
    joined = subst (λ order. IsJoined (arcs_in s.local) order i j) same.order (subst (λ arcs. IsJoined arcs r.order i j) same.arcs pair.joined);
    private = (λ t. sym (private_same i) t || sym (private_same j) t) ∙ pair.private;
  }

-- two optional bounds, both least where one is there
least_same : (net : Net) (i j : ℕ) (x y : Option ℤ) → (is_some x ≡ true → IsLeastIn net i j x × IsLeastIn net i j y)
    → (is_some y ≡ true → IsLeastIn net i j x × IsLeastIn net i j y) → x ≡ y
least_same net i j None None from_first from_second = refl
least_same net i j None (Some b) from_first from_second = absurd ((from_second refl).0)
least_same net i j (Some a) None from_first from_second = absurd ((from_first refl).1)
least_same net i j (Some a) (Some b) from_first from_second =
    let both = from_first refl in ap Some (least_bound_unique (arcs_of net) (point_count net) i j a b both.0 both.1)

-- turned about
same_back : (r s : ReducedView) → IsSamePart r s → IsSamePart s r
same_back r s same = record { agent = sym same.agent; points = sym same.points; shared = sym same.shared; arcs = sym same.arcs; order = sym same.order }

module _ (r s : ReducedView) (finals : List SummaryEntry) (bounds others : ℕ → ℕ → Option ℤ) (same : IsSamePart r s)
    (first : AreSwept r finals bounds) (second : AreSwept s finals others) (net : Net) (valid : IsNetwork net) (part : HasPart net r.local)
    (holds : HoldsFinals net r.local.agent finals) where
  -- a private pair has the least bound in both
  both_least : (i j : ℕ) → IsPrivatePair r i j → IsLeastIn net i j (bounds i j) × IsLeastIn net i j (others i j)
  both_least i j pair = (
    first.least net valid part holds i j pair,
    second.least net valid (part_same r s same net part) (subst (λ agent. HoldsFinals net agent finals) same.agent holds) i j (pair_same r s same i j pair),
  )

  pub sweeps_same : (i j : ℕ) → bounds i j ≡ others i j
  sweeps_same i j =
      least_same net i j (bounds i j) (others i j) (λ there. both_least i j (first.only i j there))
      (λ there. both_least i j (pair_same s r (same_back r s same) i j (second.only i j there)))
