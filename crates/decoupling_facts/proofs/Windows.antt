-- A window is there, is not empty, and each time in it keeps the final bounds: window_there, window_same, window_not_empty, times_keep,
-- times_within, arcs_kept, lean_within. Its two ends are met at one point or at two that are joined: value(i) - value(j) is at most final(j, i),
-- so at most final(j, k) + final(k, i).
use Rattle.std.proofs.Common.{◌≡◌, ◌≢◌, ℕ, Bool, true, List, [], ◌∷◌, refl, sym, ap, ◌∙◌, arith, inl, inr, ⊎_elim}
use Rattle.std.specs.Prelude.{◌↔◌, ℤ, pos, negsuc, neg_ℤ, ◌+ℤ◌, ◌-ℤ◌, ◌≤ℤ◌, Contains}
use Rattle.std.specs.Int.{int_div_euclid}
use Rattle.std.proofs.lemmas.Int.{ints, by_lt_z}
use Rattle.std.proofs.lemmas.Bool.{cases_eq}
use Rattle.stn_model.specs.declared.ids.Constraint.{Constraint}
use Rattle.stn_model.specs.declared.ids.Lean.{Lean}
use Rattle.stn_model.specs.declared.ids.Lean.TheVariants.{Early, Late, Middle}
use Rattle.decoupling_facts.specs.FinalBounds.{AreFinals, KeepsFinals}
use Rattle.decoupling_facts.specs.Windows.{IsNear, NearPointsMeet, LeavesWindow, lean_time, IsNextTime}
use Rattle.decoupling_facts.proofs.Lists.{contains_cases, contains_first, contains_rest}
use Rattle.decoupling_facts.proofs.FinalBounds.{finals_obey}

-- the greatest and the least of what a function gives at the items of a list that is not empty
pub record IsGreatest {X : Type 0} (f : X → ℤ) (xs : List X) (m : ℤ) : Type 0 where
  pub met : (x : X) × Contains xs x × (m ≡ f x)
  pub above : (x : X) → Contains xs x → f x ≤ℤ m

pub greatest : {X : Type 0} (f : X → ℤ) (x : X) (xs : List X) → (m : ℤ) × IsGreatest f (x ∷ xs) m
greatest f x [] = (
  f x,
  record {
    met = (x, contains_first x [], refl);
    above = λ y c. elim (contains_cases x y [] c) [ inl e ↦ (let same : f x ≡ f y = ap f e in omega (arith, ints)) | inr d ↦ absurd (let low = d.1 in omega arith) ];
  },
)
greatest f x (y ∷ ys) =
    let rest = greatest f y ys in
    let m = rest.0 in
    let g = rest.1 in
    by_lt_z m (f x)
    (λ lt. (
      f x,
      record {
        met = (x, contains_first x (y ∷ ys), refl);
        above = λ z c. elim (contains_cases x z (y ∷ ys) c) [
          | inl e ↦ (let same : f x ≡ f z = ap f e in omega (arith, ints))
          | inr d ↦ (let below = g.above z d in omega (arith, ints))
        ];
      },
    ))
    (λ le. (
      m,
      record {
        met = (g.met.0, contains_rest x g.met.0 (y ∷ ys) g.met.1, g.met.2);
        above = λ z c. elim (contains_cases x z (y ∷ ys) c) [
          | inl e ↦ (let same : f x ≡ f z = ap f e in omega (arith, ints))
          | inr d ↦ g.above z d
        ];
      },
    ))

-- so finitely many points, one at least, leave a window: its high end is the greatest turned round
pub window_there : (final : ℕ → ℕ → ℤ) (value : ℕ → ℤ) (k j : ℕ) (js : List ℕ) → (low : ℤ) × (high : ℤ) × LeavesWindow final value k (Contains (j ∷ js)) low high
window_there final value k j js =
    let low = greatest (λ x. value x -ℤ final k x) j js in
    let high = greatest (λ x. neg_ℤ (value x +ℤ final x k)) j js in
    let top = high.1.met in (
      low.0,
      neg_ℤ high.0,
      record {
        low_met = low.1.met;
        low_greatest = low.1.above;
        high_met = (top.0, top.1, (let e = top.2 in omega (arith, ints)));
        high_least = λ x c. let a = high.1.above x c in omega (arith, ints);
      },
    )

-- the window that the same points leave, told in another way
pub window_same : (final : ℕ → ℕ → ℤ) (value : ℕ → ℤ) (k : ℕ) (P Q : ℕ → Type 0) (low high : ℤ) → ((j : ℕ) → P j ↔ Q j)
    → LeavesWindow final value k P low high → LeavesWindow final value k Q low high
window_same final value k P Q low high same w = record {
  low_met = (w.low_met.0, (same w.low_met.0).0 w.low_met.1, w.low_met.2);
  low_greatest = λ j q. w.low_greatest j ((same j).1 q);
  high_met = (w.high_met.0, (same w.high_met.0).0 w.high_met.1, w.high_met.2);
  high_least = λ j q. w.high_least j ((same j).1 q);
}

module _ (arcs : List Constraint) (joined : ℕ → ℕ → Bool) (final : ℕ → ℕ → ℤ) (finals : AreFinals arcs joined final)
    (is_set : ℕ → Bool) (value : ℕ → ℤ) (keeps : KeepsFinals joined final is_set value) where
  module _ (k : ℕ) (low high : ℤ) (w : LeavesWindow final value k (IsNear joined is_set k) low high) where
    pub window_not_empty : NearPointsMeet joined is_set k → low ≤ℤ high
    window_not_empty meet =
        let obey = finals_obey arcs joined final finals in
        let i = w.low_met.0 in
        let j = w.high_met.0 in
        let low_is = w.low_met.2 in
        let high_is = w.high_met.2 in
        let low_joined = w.low_met.1.1 in
        let high_joined = w.high_met.1.1 in
        ⊎_elim
        (λ (same : i ≡ j).
        let r = obey.round k i low_joined in
        let v : value j ≡ value i = ap value (sym same) in
        let f : final j k ≡ final i k = ap (λ x. final x k) (sym same) in
        omega (arith, ints))
        (λ (apart : i ≢ j).
        let across = meet j i w.high_met.1 w.low_met.1 (λ e. apart (sym e)) in
        let v = keeps j i w.high_met.1.0 w.low_met.1.0 across in
        let t = obey.triangle j k i across (finals.turned k j high_joined) low_joined in
        omega (arith, ints))
        (cases_eq i j)

    -- a time in the window and the time of a near point differ by at most the final bounds
    from_window : (v : ℤ) → low ≤ℤ v → v ≤ℤ high → (j : ℕ) → is_set j ≡ true → joined k j ≡ true
        → ((value j -ℤ v) ≤ℤ final k j) × ((v -ℤ value j) ≤ℤ final j k)
    from_window v above below j set met =
        let bottom = w.low_greatest j (set, met) in
        let top = w.high_least j (set, met) in
        (omega (arith, ints), omega (arith, ints))

    -- so with it the times keep the final bounds
    pub times_keep : (v : ℤ) → low ≤ℤ v → v ≤ℤ high
        → (set_now : ℕ → Bool) (now : ℕ → ℤ) → IsNextTime k v is_set set_now value now → KeepsFinals joined final set_now now
    times_keep v above below set_now now next i j set_i set_j met =
        ⊎_elim
        (λ (first_k : i ≡ k).
        ⊎_elim
        (λ (second_k : j ≡ k).
        let r = (finals_obey arcs joined final finals).round i j met in
        let same : now i ≡ now j = ap now (first_k ∙ sym second_k) in
        let there : final i j ≡ final k k = (λ t. final (first_k t) (second_k t)) in
        let back : final j i ≡ final k k = (λ t. final (second_k t) (first_k t)) in
        omega (arith, ints))
        (λ (second : j ≢ k).
        let met_k : joined k j ≡ true = ap (λ x. joined x j) (sym first_k) ∙ met in
        let f = (from_window v above below j (next.set_before j set_j second) met_k).0 in
        let at_k : now i ≡ v = ap now first_k ∙ next.put.here in
        let at_j = next.put.others j second in
        let e : final i j ≡ final k j = ap (λ x. final x j) first_k in
        omega (arith, ints))
        (cases_eq j k))
        (λ (first_other : i ≢ k).
        ⊎_elim
        (λ (second_k : j ≡ k).
        let met_k : joined k i ≡ true = finals.turned i k (ap (joined i) (sym second_k) ∙ met) in
        let f = (from_window v above below i (next.set_before i set_i first_other) met_k).1 in
        let at_k : now j ≡ v = ap now second_k ∙ next.put.here in
        let at_i = next.put.others i first_other in
        let e : final i j ≡ final i k = ap (final i) second_k in
        omega (arith, ints))
        (λ (second : j ≢ k).
        let at_i = next.put.others i first_other in
        let at_j = next.put.others j second in
        let f = keeps i j (next.set_before i set_i first_other) (next.set_before j set_j second) met in
        omega (arith, ints))
        (cases_eq j k))
        (cases_eq i k)

  -- a time lies within the final bounds with z
  pub times_within : value 0 ≡ pos 0 → is_set 0 ≡ true → (k : ℕ) → is_set k ≡ true → joined k 0 ≡ true → (neg_ℤ (final k 0) ≤ℤ value k) × (value k ≤ℤ final 0 k)
  times_within first zero k set met =
      let low = keeps k 0 set zero met in
      let high = keeps 0 k zero set (finals.turned k 0 met) in
      (omega (arith, ints), omega (arith, ints))

  -- times at both ends of an arc keep it
  pub arcs_kept : (a : Constraint) → Contains arcs a → is_set a.from.0 ≡ true → is_set a.to.0 ≡ true → (value a.to.0 -ℤ value a.from.0) ≤ℤ a.bound
  arcs_kept a c from to =
      let v = keeps a.from.0 a.to.0 from to (finals.ends a c) in
      let f = (finals_obey arcs joined final finals).arc a c in
      omega (arith, ints)

-- twice the half is the sum, or one less
half_parts : (z : ℤ) → ((int_div_euclid z (pos 2) +ℤ int_div_euclid z (pos 2)) ≤ℤ z) × (z ≤ℤ (int_div_euclid z (pos 2) +ℤ int_div_euclid z (pos 2) +ℤ pos 1))
half_parts (pos a) = (omega (arith, ints), omega (arith, ints))
half_parts (negsuc a) = (omega (arith, ints), omega (arith, ints))

-- half of the sum, rounded down, is between the two
middle_within : (low high : ℤ) → low ≤ℤ high → (low ≤ℤ lean_time Middle low high) × (lean_time Middle low high ≤ℤ high)
middle_within low high le =
    let parts = half_parts (low +ℤ high) in
    let below = parts.0 in
    let above = parts.1 in
    (omega (arith, ints), omega (arith, ints))

pub lean_within : (lean : Lean) (low high : ℤ) → low ≤ℤ high → (low ≤ℤ lean_time lean low high) × (lean_time lean low high ≤ℤ high)
lean_within Early low high le = (omega (arith, ints), le)
lean_within Late low high le = (le, omega (arith, ints))
lean_within Middle low high le = middle_within low high le
