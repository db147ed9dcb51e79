-- A pass as a loop over a table: one point is set at each turn.
use Rattle.std.proofs.Common.{◌≡◌, ◌≢◌, ℕ, Bool, true, false, List, [], ◌∷◌, Option, Some, None, ap, sym, ◌∙◌, refl, arith, inl, inr, subst}
use Rattle.std.specs.Prelude.{ℤ, ◌==◌, if◌then◌else◌, Contains}
use Rattle.std.proofs.lemmas.Bool.Decides.{nat_tests}
use Rattle.stn_model.specs.Walks.{AllDifferent}
use Rattle.stn_walk.specs.Eliminations.{lesser, sum_of}
use Rattle.tri_solve.specs.Passes.{pass, least_over, by_way_of}
use Rattle.tri_solve.specs.Tables.{put, IsTable}
use Rattle.tri_solve.proofs.Lists.{contains_cases, contains_first, contains_rest, all_at}
use Rattle.tri_solve.proofs.Numbers.{joined_suffice}
use Rattle.tri_solve.proofs.PassNumbers.{pass_at, pass_other}

-- the least depends on the numbers of the listed points alone
pub over_same : (f g : ℕ → Option ℤ) (qs : List ℕ) → ((q : ℕ) → Contains qs q → f q ≡ g q) → least_over f qs ≡ least_over g qs
over_same f g [] h = refl
over_same f g (q ∷ qs) h =
    ap (λ o. lesser o (least_over f qs)) (h q (contains_first q qs)) ∙ ap (lesser (g q)) (over_same f g qs (λ p c. h p (contains_rest q p qs c)))

module _ (joined : ℕ → ℕ → Bool) (bound : ℕ → ℕ → ℤ) (start : ℕ → Option ℤ) (x : ℕ) (xs neighbours : List ℕ) (once : AllDifferent (x ∷ xs)) (before : ℕ → Option ℤ)
    (h : IsTable joined bound start xs before) (all : (q : ℕ) → Contains xs q → joined q x ≡ true → Contains neighbours q)
    (among : (q : ℕ) → Contains neighbours q → Contains xs q) where
  abbrev next : Option ℤ
  next = lesser (before x) (least_over (by_way_of joined bound before x) neighbours)

  next_is : next ≡ pass joined bound start (x ∷ xs) x
  next_is =
      let first : before x ≡ start x = h.unset x (λ c. all_at (λ y. x ≢ y) xs x once.0 c refl) in
      let wide = joined_suffice joined bound before x xs neighbours all among in
      let same = over_same (by_way_of joined bound before x) (by_way_of joined bound (pass joined bound start xs) x) xs
      (λ q c. ap (λ o. if joined q x then sum_of o (Some (bound q x)) else None) (h.set q c)) in
      ap (λ o. lesser o (least_over (by_way_of joined bound before x) neighbours)) first ∙ ap (lesser (start x)) (sym wide ∙ same) ∙ sym (pass_at joined bound start x xs)

  pub table_step : IsTable joined bound start (x ∷ xs) (put x next before)
  table_step = record {
    set = λ p c. elim (p == x) as (λ b. (p == x) ≡ b → (if b then next else before p) ≡ pass joined bound start (x ∷ xs) p) [
      | true ↦ λ t. let e : x ≡ p = grind (arith, nat_tests) in next_is ∙ ap (pass joined bound start (x ∷ xs)) e
      | false ↦ λ t.
          let ne : p ≢ x = grind (arith, nat_tests) in
          elim (contains_cases x p xs c) [
            | inl e ↦ absurd (ne (sym e))
            | inr c ↦ h.set p c ∙ sym (pass_other joined bound start x p xs ne)
          ]
    ] refl;
    unset = λ p c. elim (p == x) as (λ b. (p == x) ≡ b → (if b then next else before p) ≡ start p) [
      | true ↦ λ t. let e : x ≡ p = grind (arith, nat_tests) in absurd (c (subst (λ (k : ℕ). Contains (x ∷ xs) k) e (contains_first x xs)))
      | false ↦ λ t. h.unset p (λ d. c (contains_rest x p xs d))
    ] refl;
  }

pub table_begins : (joined : ℕ → ℕ → Bool) (bound : ℕ → ℕ → ℤ) (start : ℕ → Option ℤ) → IsTable joined bound start [] start
table_begins joined bound start = record { set = λ p c. absurd (omega (arith, c.1)); unset = λ p c. refl }
