-- Flags of the points that the first arcs of a list end at.
use Rattle.std.proofs.Common.{◌≡◌, ◌≢◌, ℕ, ◌+◌, ◌<◌, ◌≤◌, Bool, true, false, List, length, get_or, set, sym, ap, ◌∙◌, arith, ⊎_elim, get_or-set_same, get_or-set_other, replicate}
use Rattle.std.proofs.lemmas.Bool.{cases_eq, cases_lt, false≢true}
use Rattle.std.proofs.lemmas.List.{get_or-replicate, get_or_past, length-replicate, length-map}
use Rattle.stn_model.specs.declared.ids.Constraint.{Constraint}
use Rattle.stn_model.specs.Arcs.{to_at}
use Rattle.stn_model.specs.Walks.{heads, AllDifferent}
use Rattle.stn_walk.proofs.Different.{AllDifferent-from_index, different_at}
use Rattle.stn_walk.proofs.Heads.{head_is}

-- a point is flagged where one of the first i arcs ends at it, and these end at different points
pub record AreMet (list : List Constraint) (ns : List ℕ) (i : ℕ) (met : List Bool) : Type 0 where
  pub flagged : (k : ℕ) → k < i → get_or met (to_at list (get_or ns k 0)) false ≡ true
  pub reached : (p : ℕ) → get_or met p false ≡ true → (k : ℕ) × (k < i) × (to_at list (get_or ns k 0) ≡ p)
  pub apart : (m k : ℕ) → m < i → k < m → to_at list (get_or ns k 0) ≡ to_at list (get_or ns m 0) → ⊥

module _ (list : List Constraint) (ns : List ℕ) (i : ℕ) (met : List Bool) (h : AreMet list ns i met) (p : ℕ) (is : p ≡ to_at list (get_or ns i 0)) (lt : p < length met)
    (fresh : get_or met p false ≡ false) where
  new_apart : (k : ℕ) → k < i → to_at list (get_or ns k 0) ≡ p → ⊥
  new_apart k low e = false≢true (sym fresh ∙ sym (ap (λ (q : ℕ). get_or met q false) e) ∙ h.flagged k low)

  pub AreMet-more : AreMet list ns (i + 1) (set met p true)
  AreMet-more = record {
    flagged = λ k low. ⊎_elim
        (λ (old : k < i).
        get_or-set_other met p (to_at list (get_or ns k 0)) true false (λ e. new_apart k old e) ∙ h.flagged k old)
        (λ (new : i ≤ k).
        let here : k ≡ i = omega arith in
        ap (λ (q : ℕ). get_or (set met p true) q false) (ap (λ (j : ℕ). to_at list (get_or ns j 0)) here ∙ sym is) ∙ get_or-set_same met p true false lt)
        (cases_lt k i);
    reached = λ q flag. ⊎_elim
        (λ (e : q ≡ p). (i, omega arith, sym is ∙ sym e))
        (λ (ne : q ≢ p).
        let r = h.reached q (sym (get_or-set_other met p q true false ne) ∙ flag) in
        let low = r.1 in
        (r.0, omega arith, r.2))
        (cases_eq q p);
    apart = λ m k m_lt km e. ⊎_elim
        (λ (old : m < i). h.apart m k old km e)
        (λ (new : i ≤ m).
        let here : m ≡ i = omega arith in
        new_apart k (omega arith) (e ∙ ap (λ (j : ℕ). to_at list (get_or ns j 0)) here ∙ sym is))
        (cases_lt m i);
  }

pub AreMet-none : (list : List Constraint) (ns : List ℕ) (n : ℕ) → AreMet list ns 0 (replicate n false)
AreMet-none list ns n = record {
  flagged = λ k low. absurd (omega arith);
  reached = λ p flag. absurd (⊎_elim
      (λ (lt : p < n). false≢true (sym (get_or-replicate n p false false lt) ∙ flag))
      (λ (ge : n ≤ p). let len = length-replicate n false in false≢true (sym (get_or_past (replicate n false) p false (omega arith)) ∙ flag))
      (cases_lt p n));
  apart = λ m k m_lt km e. absurd (omega arith);
}

module _ (list : List Constraint) (ns : List ℕ) where
  pub AreMet-repeat : (i : ℕ) (met : List Bool) → AreMet list ns i met → i < length ns → (p : ℕ) → p ≡ to_at list (get_or ns i 0) → get_or met p false ≡ true
      → AllDifferent (heads list ns) → ⊥
  AreMet-repeat i met h lt p is flag d =
      let len : length (heads list ns) ≡ length ns = length-map ns (to_at list) in
      let r = h.reached p flag in
      let low = r.1 in
      different_at (heads list ns) d i r.0 (omega arith) low (head_is list ns r.0 (omega arith) ∙ r.2 ∙ is ∙ sym (head_is list ns i lt))

  pub AreMet-all : (met : List Bool) → AreMet list ns (length ns) met → AllDifferent (heads list ns)
  AreMet-all met h =
      let len : length (heads list ns) ≡ length ns = length-map ns (to_at list) in
      AllDifferent-from_index (heads list ns) (λ m k lt km e.
      let within : m < length ns = omega arith in
      h.apart m k within km (sym (head_is list ns k (omega arith)) ∙ e ∙ head_is list ns m within))
