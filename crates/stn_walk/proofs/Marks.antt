-- Marked places when the last point is dropped.
use Rattle.std.proofs.Common.{◌≡◌, ◌≢◌, ℕ, ◌+◌, ◌-◌, ◌<◌, ◌≤◌, List, length, get_or, set, take, sym, ap, ◌∙◌, arith, ⊎_elim, get_or-set_same, get_or-set_other}
use Rattle.std.proofs.lemmas.Bool.{cases_eq, cases_lt}
use Rattle.std.proofs.lemmas.List.{get_or-take, get_or_past, length-take-le}
use Rattle.stn_walk.specs.Marks.{IsMarked}

module _ (points places : List ℕ) (last : ℕ) (is : last + 1 ≡ length points) (m : IsMarked points places) where
  there : get_or places (get_or points last 0) 0 ≡ last + 1
  there = m.place last (omega arith)

  -- so its point has a place
  pub last_within : get_or points last 0 < length places
  last_within = ⊎_elim
      (λ (lt : get_or points last 0 < length places). lt)
      (λ (ge : length places ≤ get_or points last 0). let none = get_or_past places (get_or points last 0) 0 ge in let e = there in absurd (omega arith))
      (cases_lt (get_or points last 0) (length places))

  pub IsMarked-take : IsMarked (take last points) (set places (get_or points last 0) 0)
  IsMarked-take =
      let e = there in
      let len : length (take last points) ≡ last = length-take-le last points (omega arith) in
      record {
        place = λ k lt.
            let low : k < last = omega arith in
            let at = get_or-take last points k 0 low in
            let mark = m.place k (omega arith) in
            let other : get_or points k 0 ≢ get_or points last 0 = (λ same. let both = ap (λ (p : ℕ). get_or places p 0) same in absurd (omega arith)) in
            ap (λ (p : ℕ). get_or (set places (get_or points last 0) 0) p 0) at
            ∙ get_or-set_other places (get_or points last 0) (get_or points k 0) 0 0 other ∙ mark;
        point = λ p some. ⊎_elim
            (λ (same : p ≡ get_or points last 0).
            let gone = ap (λ (q : ℕ). get_or (set places (get_or points last 0) 0) q 0) same ∙ get_or-set_same places (get_or points last 0) 0 0 last_within in
            absurd (omega arith))
            (λ (other : p ≢ get_or points last 0).
            let stays = get_or-set_other places (get_or points last 0) p 0 0 other in
            point_stays p other (get_or (set places (get_or points last 0) 0) p 0) stays some)
            (cases_eq p (get_or points last 0));
      } where
        point_stays : (p : ℕ) → p ≢ get_or points last 0 → (k : ℕ) → k ≡ get_or places p 0 → 0 < k
            → (k ≤ length (take last points)) × (get_or (take last points) (k - 1) 0 ≡ p)
        point_stays p other k at some =
            let len : length (take last points) ≡ last = length-take-le last points (omega arith) in
            let h = m.point p (omega arith) in
            let high = h.0 in
            let place : get_or points (k - 1) 0 ≡ p = ap (λ (q : ℕ). get_or points (q - 1) 0) at ∙ h.1 in
            let apart : k ≢ last + 1 = (λ e. let here : k - 1 ≡ last = omega arith in other (sym place ∙ ap (λ (q : ℕ). get_or points q 0) here)) in
            (omega arith, get_or-take last points (k - 1) 0 (omega arith) ∙ place)
