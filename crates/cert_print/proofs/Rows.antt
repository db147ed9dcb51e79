-- The distances that a section has told: those of the source and of the points whose lines stand already, and no others.
use Rattle.std.proofs.Common.{◌≡◌, ◌≢◌, ℕ, zero, suc, ◌<◌, ◌≤◌, ℤ, pos, length, replicate, Option, Some, None, sym, ap, ◌∙◌, arith, ⊎_elim, inl, inr, length-set}
use Rattle.std.proofs.lemmas.Bool.{cases_lt, cases_eq}
use Rattle.std.proofs.lemmas.List.{get_or-set_same, get_or-set_other, get_or-replicate, length-replicate}
use Rattle.stn_model.specs.Schedules.{time_at}
use Rattle.plain_solve.specs.LeastWalks.{LeastWalks, point_at, IsBefore}
use Rattle.cert_check.specs.Rows.{distance_to, first_row}
use Rattle.cert_print.specs.Sections.{row_of}

module _ (points : ℕ) (t : LeastWalks) where
  pub length-row_of : (k : ℕ) → length (row_of points t k) ≡ points
  length-row_of zero = length-set (replicate {A = Option ℤ} points None) t.source (Some (pos 0)) ∙ length-replicate {A = Option ℤ} points None
  length-row_of (suc k) = length-set (row_of points t k) (point_at t.order k) (Some (time_at t.distances (point_at t.order k))) ∙ length-row_of k

  pub untold : (k p : ℕ) → p < points → p ≢ t.source → ((j : ℕ) → j < k → point_at t.order j ≢ p) → distance_to (row_of points t k) p ≡ None
  untold zero p lt other fresh =
      get_or-set_other (replicate {A = Option ℤ} points None) t.source p (Some (pos 0)) None other ∙ get_or-replicate {A = Option ℤ} points p None None lt
  untold (suc k) p lt other fresh =
      get_or-set_other (row_of points t k) (point_at t.order k) p (Some (time_at t.distances (point_at t.order k))) None (λ e. fresh k (omega arith) (sym e))
      ∙ untold k p lt other (λ j less. fresh j (omega arith))

  earlier : (k p : ℕ) → p ≢ point_at t.order k → IsBefore t.source t.order (suc k) p → IsBefore t.source t.order k p
  earlier k p other before = ⊎_elim
      (λ (e : p ≡ t.source). inl e)
      (λ (at : (j : ℕ) × (j < suc k) × (point_at t.order j ≡ p)).
      let lt = at.1 in
      ⊎_elim
      (λ (less : at.0 < k). inr (at.0, less, at.2))
      (λ (not_less : k ≤ at.0). let same : at.0 ≡ k = omega arith in absurd (other (sym at.2 ∙ ap (point_at t.order) same)))
      (cases_lt at.0 k))
      before

  pub told : (k p : ℕ) → t.source < points → time_at t.distances t.source ≡ pos 0 → ((j : ℕ) → j < k → point_at t.order j < points) → IsBefore t.source t.order k p
      → distance_to (row_of points t k) p ≡ Some (time_at t.distances p)
  told zero p lt own within before = ⊎_elim
      (λ (e : p ≡ t.source).
      let len = length-replicate {A = Option ℤ} points None in
      ap (distance_to (first_row points t.source)) e ∙ get_or-set_same (replicate {A = Option ℤ} points None) t.source (Some (pos 0)) None (omega arith)
      ∙ ap Some (sym own ∙ ap (time_at t.distances) (sym e)))
      (λ (at : (j : ℕ) × (j < 0) × (point_at t.order j ≡ p)). let none = at.1 in absurd (omega arith))
      before
  told (suc k) p lt own within before = ⊎_elim
      (λ (e : p ≡ point_at t.order k).
      let len = length-row_of k in
      let here = within k (omega arith) in
      ap (distance_to (row_of points t (suc k))) e
      ∙ get_or-set_same (row_of points t k) (point_at t.order k) (Some (time_at t.distances (point_at t.order k))) None (omega arith)
      ∙ ap (λ q. Some (time_at t.distances q)) (sym e))
      (λ (other : p ≢ point_at t.order k).
      get_or-set_other (row_of points t k) (point_at t.order k) p (Some (time_at t.distances (point_at t.order k))) None other
      ∙ told k p lt own (λ j less. within j (omega arith)) (earlier k p other before))
      (cases_eq p (point_at t.order k))
