-- The summary of agent 0 in the detour, and in the network with the longer way.
use Rattle.std.proofs.Common.{◌≡◌, ℕ, zero, suc, ℤ, pos, IsTrue, List, [], ◌∷◌, ◌⊎◌, inl, inr, refl, sym, ◌∙◌, arith, Some}
use Rattle.std.proofs.lemmas.Bool.{false≢true}
use Rattle.std.proofs.lemmas.Bool.Decides.{nat_tests}
use Rattle.std.specs.List.{Contains}
use Rattle.stn_model.specs.Net.{arcs_of, point_count}
use Rattle.stn_model.specs.Kinds.{is_private_of}
use Rattle.stn_model.specs.Conflicts.{own_arcs}
use Rattle.stn_model.specs.Inner.{IsInnerWeight}
use Rattle.stn_model.specs.Schedules.{KeepsArcs}
use Rattle.stn_model.specs.Summaries.{IsSummary, IsSeenPair, is_seen}
use Rattle.stn_model.proofs.WalkLemmas.{no_schedule}
use Rattle.stn_walk.specs.Eliminations.{is_in}
use Rattle.handover_facts.specs.Detour.{detour, detour_entries, far, far_entries}
use Rattle.handover_facts.proofs.Cells.{entry-by_cells, weight-by_cells}
use Rattle.handover_facts.proofs.Checked.{keeps-from_test, once-from_test, private-past_end, seen-past_end}

abbrev zeros : List ℤ
zeros = pos 0 ∷ pos 0 ∷ pos 0 ∷ pos 0 ∷ pos 0 ∷ []

detour_keeps : KeepsArcs (arcs_of detour) zeros
detour_keeps = keeps-from_test (arcs_of detour) zeros refl

detour_keeps_own : KeepsArcs (own_arcs detour 0) zeros
detour_keeps_own = keeps-from_test (own_arcs detour 0) zeros refl

-- r alone is private, and z, p and q are seen
detour_private : (p : ℕ) → is_in (2 ∷ []) p ≡ is_private_of detour 0 p
detour_private zero = refl
detour_private (suc zero) = refl
detour_private (suc (suc zero)) = refl
detour_private (suc (suc (suc zero))) = refl
detour_private (suc (suc (suc (suc zero)))) = refl
detour_private (suc (suc (suc (suc (suc p))))) =
    let past = private-past_end detour 0 (suc (suc (suc (suc (suc p))))) (omega arith) in grind (arith, nat_tests)

detour_seen : (p : ℕ) → IsTrue (is_seen detour 0 p) → (p ≡ 0) ⊎ ((p ≡ 1) ⊎ (p ≡ 3))
detour_seen zero h = inl refl
detour_seen (suc zero) h = inr (inl refl)
detour_seen (suc (suc zero)) h = absurd (false≢true h)
detour_seen (suc (suc (suc zero))) h = inr (inr refl)
detour_seen (suc (suc (suc (suc zero)))) h = absurd (false≢true h)
detour_seen (suc (suc (suc (suc (suc p))))) h = absurd (false≢true (sym (seen-past_end detour 0 (suc (suc (suc (suc (suc p))))) (omega arith)) ∙ h))

detour_whole : (i j : ℕ) → IsSeenPair detour 0 i j → (i ≡ 0) ⊎ ((i ≡ 1) ⊎ (i ≡ 3)) → (j ≡ 0) ⊎ ((j ≡ 1) ⊎ (j ≡ 3))
    → (w : ℤ) × Contains detour_entries (record { from = i; to = j; weight = w })
detour_whole i j s (inl a) (inl b) = absurd (s.different (a ∙ sym b))
detour_whole i j s (inl a) (inr (inl b)) = (pos 10, (0, omega arith, cc))
detour_whole i j s (inl a) (inr (inr b)) = (pos 10, (1, omega arith, cc))
detour_whole i j s (inr (inl a)) (inl b) = (pos 0, (2, omega arith, cc))
detour_whole i j s (inr (inl a)) (inr (inl b)) = absurd (s.different (a ∙ sym b))
detour_whole i j s (inr (inl a)) (inr (inr b)) = (pos 7, (3, omega arith, cc))
detour_whole i j s (inr (inr a)) (inl b) = (pos 0, (4, omega arith, cc))
detour_whole i j s (inr (inr a)) (inr (inl b)) = (pos 10, (5, omega arith, cc))
detour_whole i j s (inr (inr a)) (inr (inr b)) = absurd (s.different (a ∙ sym b))

pub summary_of_detour : IsSummary detour 0 detour_entries
summary_of_detour =
    let entry = entry-by_cells detour 0 (2 ∷ []) zeros detour_keeps_own detour_private in
    record {
      sound = λ cycle c.
          no_schedule (arcs_of detour) (point_count detour) cycle c.negative (zeros, record { one_each = refl; first = refl; keeps = detour_keeps });
      weights =
          let e01 = entry 0 1 (pos 10) (omega arith) refl refl refl refl in
          let e03 = entry 0 3 (pos 10) (omega arith) refl refl refl refl in
          let e10 = entry 1 0 (pos 0) (omega arith) refl refl refl refl in
          let e13 = entry 1 3 (pos 7) (omega arith) refl refl refl refl in
          let e30 = entry 3 0 (pos 0) (omega arith) refl refl refl refl in
          let e31 = entry 3 1 (pos 10) (omega arith) refl refl refl refl in
          (e01, (e03, (e10, (e13, (e30, (e31, tt))))));
      whole = λ i j s. detour_whole i j s (detour_seen i s.from) (detour_seen j s.to);
      once = once-from_test detour_entries refl;
    }

far_keeps : KeepsArcs (arcs_of far) zeros
far_keeps = keeps-from_test (arcs_of far) zeros refl

far_keeps_own : KeepsArcs (own_arcs far 0) zeros
far_keeps_own = keeps-from_test (own_arcs far 0) zeros refl

-- r alone is private, and z, p and q are seen
far_private : (p : ℕ) → is_in (2 ∷ []) p ≡ is_private_of far 0 p
far_private zero = refl
far_private (suc zero) = refl
far_private (suc (suc zero)) = refl
far_private (suc (suc (suc zero))) = refl
far_private (suc (suc (suc (suc zero)))) = refl
far_private (suc (suc (suc (suc (suc p))))) = let past = private-past_end far 0 (suc (suc (suc (suc (suc p))))) (omega arith) in grind (arith, nat_tests)

far_seen : (p : ℕ) → IsTrue (is_seen far 0 p) → (p ≡ 0) ⊎ ((p ≡ 1) ⊎ (p ≡ 3))
far_seen zero h = inl refl
far_seen (suc zero) h = inr (inl refl)
far_seen (suc (suc zero)) h = absurd (false≢true h)
far_seen (suc (suc (suc zero))) h = inr (inr refl)
far_seen (suc (suc (suc (suc zero)))) h = absurd (false≢true h)
far_seen (suc (suc (suc (suc (suc p))))) h = absurd (false≢true (sym (seen-past_end far 0 (suc (suc (suc (suc (suc p))))) (omega arith)) ∙ h))

far_whole : (i j : ℕ) → IsSeenPair far 0 i j → (i ≡ 0) ⊎ ((i ≡ 1) ⊎ (i ≡ 3)) → (j ≡ 0) ⊎ ((j ≡ 1) ⊎ (j ≡ 3))
    → (w : ℤ) × Contains far_entries (record { from = i; to = j; weight = w })
far_whole i j s (inl a) (inl b) = absurd (s.different (a ∙ sym b))
far_whole i j s (inl a) (inr (inl b)) = (pos 10, (0, omega arith, cc))
far_whole i j s (inl a) (inr (inr b)) = (pos 10, (1, omega arith, cc))
far_whole i j s (inr (inl a)) (inl b) = (pos 0, (2, omega arith, cc))
far_whole i j s (inr (inl a)) (inr (inl b)) = absurd (s.different (a ∙ sym b))
far_whole i j s (inr (inl a)) (inr (inr b)) = (pos 10, (3, omega arith, cc))
far_whole i j s (inr (inr a)) (inl b) = (pos 0, (4, omega arith, cc))
far_whole i j s (inr (inr a)) (inr (inl b)) = (pos 10, (5, omega arith, cc))
far_whole i j s (inr (inr a)) (inr (inr b)) = absurd (s.different (a ∙ sym b))

pub summary_of_far : IsSummary far 0 far_entries
summary_of_far =
    let entry = entry-by_cells far 0 (2 ∷ []) zeros far_keeps_own far_private in
    record {
      sound = λ cycle c.
          no_schedule (arcs_of far) (point_count far) cycle c.negative (zeros, record { one_each = refl; first = refl; keeps = far_keeps });
      weights =
          let e01 = entry 0 1 (pos 10) (omega arith) refl refl refl refl in
          let e03 = entry 0 3 (pos 10) (omega arith) refl refl refl refl in
          let e10 = entry 1 0 (pos 0) (omega arith) refl refl refl refl in
          let e13 = entry 1 3 (pos 10) (omega arith) refl refl refl refl in
          let e30 = entry 3 0 (pos 0) (omega arith) refl refl refl refl in
          let e31 = entry 3 1 (pos 10) (omega arith) refl refl refl refl in
          (e01, (e03, (e10, (e13, (e30, (e31, tt))))));
      whole = λ i j s. far_whole i j s (far_seen i s.from) (far_seen j s.to);
      once = once-from_test far_entries refl;
    }

-- the walk from p to q weighs more than the horizon
pub weight_in_far : IsInnerWeight (is_private_of far 0) (own_arcs far 0) 1 3 (Some (pos 11))
weight_in_far = weight-by_cells far 0 (2 ∷ []) zeros far_keeps_own far_private 1 3
