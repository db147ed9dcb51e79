-- The summary of ann.
use Rattle.std.proofs.Common.{◌≡◌, ℕ, zero, suc, ℤ, pos, neg_ℤ, IsTrue, [], ◌∷◌, ◌⊎◌, inl, inr, refl, sym, ◌∙◌, arith}
use Rattle.std.proofs.lemmas.Bool.{false≢true}
use Rattle.std.proofs.lemmas.Bool.Decides.{nat_tests}
use Rattle.std.specs.List.{Contains}
use Rattle.stn_model.specs.Net.{arcs_of, point_count}
use Rattle.stn_model.specs.Kinds.{is_private_of}
use Rattle.stn_model.specs.Conflicts.{own_arcs}
use Rattle.stn_model.specs.Summaries.{IsSummary, IsSeenPair, is_seen}
use Rattle.stn_model.proofs.WalkLemmas.{no_schedule}
use Rattle.stn_walk.specs.Eliminations.{is_in}
use Rattle.sample_nets.specs.Samples.{handover}
use Rattle.handover_facts.specs.Handover.{ann_entries}
use Rattle.handover_facts.proofs.Cells.{entry-by_cells}
use Rattle.handover_facts.proofs.Checked.{keeps-from_test, once-from_test, private-past_end, seen-past_end}
use Rattle.handover_facts.proofs.Schedules.{late, late_keeps}

-- a1 alone is private
private_is : (p : ℕ) → is_in (1 ∷ []) p ≡ is_private_of handover 0 p
private_is zero = refl
private_is (suc zero) = refl
private_is (suc (suc zero)) = refl
private_is (suc (suc (suc zero))) = refl
private_is (suc (suc (suc (suc zero)))) = refl
private_is (suc (suc (suc (suc (suc p))))) = let past = private-past_end handover 0 (suc (suc (suc (suc (suc p))))) (omega arith) in grind (arith, nat_tests)

-- z and a2 alone are seen
seen_cases : (p : ℕ) → IsTrue (is_seen handover 0 p) → (p ≡ 0) ⊎ (p ≡ 2)
seen_cases zero h = inl refl
seen_cases (suc zero) h = absurd (false≢true h)
seen_cases (suc (suc zero)) h = inr refl
seen_cases (suc (suc (suc zero))) h = absurd (false≢true h)
seen_cases (suc (suc (suc (suc zero)))) h = absurd (false≢true h)
seen_cases (suc (suc (suc (suc (suc p))))) h = absurd (false≢true (sym (seen-past_end handover 0 (suc (suc (suc (suc (suc p))))) (omega arith)) ∙ h))

whole : (i j : ℕ) → IsSeenPair handover 0 i j → (i ≡ 0) ⊎ (i ≡ 2) → (j ≡ 0) ⊎ (j ≡ 2)
    → (w : ℤ) × Contains ann_entries (record { from = i; to = j; weight = w })
whole i j s (inl a) (inl b) = absurd (s.different (a ∙ sym b))
whole i j s (inl a) (inr b) = (pos 60, (0, omega arith, cc))
whole i j s (inr a) (inl b) = (neg_ℤ (pos 30), (1, omega arith, cc))
whole i j s (inr a) (inr b) = absurd (s.different (a ∙ sym b))

pub summary_of_ann : IsSummary handover 0 ann_entries
summary_of_ann =
    let entry = entry-by_cells handover 0 (1 ∷ []) late (keeps-from_test (own_arcs handover 0) late refl) private_is in
    record {
      sound = λ cycle c.
          no_schedule (arcs_of handover) (point_count handover) cycle c.negative (late, record { one_each = refl; first = refl; keeps = late_keeps });
      weights = (entry 0 2 (pos 60) (omega arith) refl refl refl refl, (entry 2 0 (neg_ℤ (pos 30)) (omega arith) refl refl refl refl, tt));
      whole = λ i j s. whole i j s (seen_cases i s.from) (seen_cases j s.to);
      once = once-from_test ann_entries refl;
    }
