-- One elimination keeps what the cells come to.
use Rattle.std.proofs.Common.{zero, suc, ◌≡◌, ◌≢◌, ℕ, ◌<◌, ◌≤◌, ◌^◌, List, [], ◌∷◌, Bool, true, false, ◌||◌, ◌&&◌, not, Option, Some, None, ap, sym}
use Rattle.std.proofs.Common.{◌∙◌, refl, arith, subst, length, set, length-set, get_or-set_same, get_or-set_other, inl, inr, ◌⊎◌}
use Rattle.std.specs.Prelude.{ℤ, ◌==◌, is_some, IfSome, nat_abs}
use Rattle.std.proofs.Math.Bool.{or-true, or-false}
use Rattle.std.proofs.lemmas.Bool.{cases_lt}
use Rattle.std.proofs.lemmas.Bool.Decides.{nat_tests}
use Rattle.stn_model.specs.Limits.{greatest_walk, most_points}
use Rattle.stn_model.specs.declared.ids.Constraint.{Constraint}
use Rattle.stn_model.specs.ArcWalks.{NoNegative, IsInnerLeast, IsInner}
use Rattle.stn_walk.specs.Eliminations.{is_in, cell_of, before_both, IsNotBelow}
use Rattle.stn_walk.proofs.Visits.{inner_in}
use Rattle.stn_walk.proofs.Eliminations.{cell-least, stays, before-in}
use Rattle.stn_walk.proofs.LightWalks.{IsBelow, HasBounds, cells_light}
use Rattle.dist_rows.specs.declared.cell.Cell.{Cell}
use Rattle.dist_rows.specs.Cells.{IsLight, AllLight}
use Rattle.elim_step.specs.Eliminates.{remains, is_pair, eliminated, is_negative, is_below}
use Rattle.elim_step.specs.Eliminated.{weight_at, point_at, forward_of, IsGround, IsEliminated}
use Rattle.elim_step.proofs.Weights.{weight-through, forward-whole, forward-kept, sums_below, negative-is, not_below}

module _ (points : List ℕ) (arcs : List Constraint) (ground : IsGround points arcs) where
  -- whether a point is one of the list
  listed_or : (n p : ℕ) → ((k : ℕ) × (k < n) × (point_at points k ≡ p)) ⊎ ((k : ℕ) → k < n → point_at points k ≢ p)
  listed_or zero p = inr (λ k low. absurd (omega arith))
  listed_or (suc n) p =
      elim (point_at points n == p) as
      (λ b. (point_at points n == p) ≡ b → ((k : ℕ) × (k < suc n) × (point_at points k ≡ p)) ⊎ ((k : ℕ) → k < suc n → point_at points k ≢ p)) [
        | true ↦ λ t. inl (n, omega arith, grind (arith, nat_tests))
        | false ↦ λ t. elim (listed_or n p) [
          | inl h ↦ (let low = h.1 in inl (h.0, omega arith, h.2))
          | inr h ↦ inr (λ k low. last k low h t)
        ]
      ] refl where
        last : (k : ℕ) → k < suc n → ((k : ℕ) → k < n → point_at points k ≢ p) → (point_at points n == p) ≡ false → point_at points k ≢ p
        last k low h t = elim (cases_lt k n) [
          | inl less ↦ h k less
          | inr more ↦ (let e : k ≡ n = omega arith in rw e (grind (arith, nat_tests)))
        ]

  -- no walk begins at a point that is not one of the list
  outside : (inner : ℕ → Bool) (p j : ℕ) (x y : Option ℤ) → ((k : ℕ) → k < length points → point_at points k ≢ p) → IsInnerLeast inner arcs p j x
      → IsNotBelow x y
  outside inner p j None y away least = tt
  outside inner p j (Some b) y away least = absurd (go least.0.0 least.0.1) where
    go : (w : List Constraint) → IsInner inner arcs p j w → ⊥
    go [] h = h
    go (a ∷ w) h = let l = ground.starts a h.0 in away l.0 l.1 (l.2 ∙ h.1)

  below : IsBelow most_points arcs
  unfolding IsBelow
  below = λ a here. let l = ground.starts a here in let low = ground.below l.0 l.1 in let e = l.2 in omega arith

  bounds : HasBounds greatest_walk arcs
  unfolding HasBounds
  bounds = λ a here. ground.light a here

  pub weights_light : (es : List ℕ) → NoNegative (is_in es) arcs → (i j : ℕ) → IfSome (cell_of arcs es i j) (λ w. nat_abs w ≤ 2 ^ 99)
  weights_light = cells_light arcs most_points greatest_walk below bounds (omega arith)

  module _ (es : List ℕ) (at : ℕ → ℕ → Option Cell) (remain : List Bool) (h : IsEliminated points arcs es at remain) where
    -- the cell between two places that remain
    open_cell : (i j : ℕ) → i < length points → j < length points → i ≢ j → is_in es (point_at points i) ≡ false → is_in es (point_at points j) ≡ false
        → weight_at (at i j) ≡ cell_of arcs es (point_at points i) (point_at points j)
    open_cell i j li lj ij oi oj = h.cells i j li lj ij ∙ forward-whole arcs es (point_at points i) (point_at points j) oi oj

    before_none : (i j : ℕ) → NoNegative (is_in (before_both es i j)) arcs
    before_none i j x w g = h.none_below x w (inner_in (is_in (before_both es i j)) (is_in es) arcs x x w (before-in es i j) g)

    -- each cell is an inner least weight
    pub cell_is_least : (i j : ℕ) → i < length points → j < length points → i ≢ j
        → IsInnerLeast (is_in (before_both es (point_at points i) (point_at points j))) arcs (point_at points i) (point_at points j) (weight_at (at i j))
    cell_is_least i j li lj ij =
        let p = point_at points i in
        let q = point_at points j in
        rw (h.cells i j li lj ij) (cell-least arcs (before_both es p q) (before_none p q) p q)

    light_of : (x : Option Cell) (y : Option ℤ) → weight_at x ≡ y → IfSome y (λ w. nat_abs w ≤ 2 ^ 99) → IfSome x (λ c. IsLight 99 c.weight)
    light_of None y e g = tt
    light_of (Some c) None e g = absurd (cc)
    light_of (Some c) (Some w) e g = let same : c.weight ≡ w = cc in rw same g

    none_light : (x : Option Cell) → is_some x ≡ false → IfSome x (λ c. IsLight 99 c.weight)
    none_light None g = tt
    none_light (Some c) g = absurd (cc)

    -- all cells are light
    pub all_light : ((p q : ℕ) → is_some (at p q) ≡ true → (p < length points) × (q < length points) × (p ≢ q)) → AllLight 99 at
    all_light room p q =
        elim (is_some (at p q)) as (λ b. is_some (at p q) ≡ b → IfSome (at p q) (λ c. IsLight 99 c.weight)) [
          | true ↦ λ t.
              let r = room p q t in
              let x = point_at points p in
              let y = point_at points q in
              light_of (at p q) (forward_of arcs es x y) (h.cells p q r.0 r.1 r.2) (weights_light (before_both es x y) (before_none x y) x y)
          | false ↦ λ t. none_light (at p q) t
        ] refl

    module _ (k : ℕ) (lk : k < length points) (fresh : is_in es (point_at points k) ≡ false) where
      -- no other point outside has two cells with k that sum below 0
      sums : ((m : ℕ) → is_below remain at k m ≡ false)
          → (p : ℕ) → is_in es p ≡ false → p ≢ point_at points k → IsNotBelow (cell_of arcs es p (point_at points k)) (cell_of arcs es (point_at points k) p)
      sums clear p out apart = elim (listed_or (length points) p) [
        | inl m ↦ here p out apart m
        | inr away ↦ outside (is_in es) p (point_at points k) (cell_of arcs es p (point_at points k)) (cell_of arcs es (point_at points k) p) away
            (cell-least arcs es h.none_below p (point_at points k))
      ] where
        here : (p : ℕ) → is_in es p ≡ false → p ≢ point_at points k → (m : ℕ) × (m < length points) × (point_at points m ≡ p)
            → IsNotBelow (cell_of arcs es p (point_at points k)) (cell_of arcs es (point_at points k) p)
        here p out apart (m, lm, e) =
            let mk : m ≢ k = λ s. apart (sym e ∙ ap (point_at points) s) in
            let km : k ≢ m = λ s. mk (sym s) in
            let out_m : is_in es (point_at points m) ≡ false = rw e out in
            let there : remains remain m ≡ true = h.remaining m lm ∙ ap not out_m in
            let test : is_negative (at k m) (at m k) ≡ false = rw there at (clear m) in
            let sum : sums_below (cell_of arcs es (point_at points k) (point_at points m)) (cell_of arcs es (point_at points m) (point_at points k)) ≡ false =
            ap (λ o. sums_below o (cell_of arcs es (point_at points m) (point_at points k))) (sym (open_cell k m lk lm km fresh out_m))
            ∙ ap (sums_below (weight_at (at k m))) (sym (open_cell m k lm lk mk out_m fresh))
            ∙ sym (negative-is (at k m) (at m k)) ∙ test in
            subst (λ (x : ℕ). IsNotBelow (cell_of arcs es x (point_at points k)) (cell_of arcs es (point_at points k) x)) e
            (not_below (cell_of arcs es (point_at points m) (point_at points k)) (cell_of arcs es (point_at points k) (point_at points m)) sum)

      -- an elimination that finds nothing below 0 keeps it all
      module _ (after : ℕ → ℕ → Option Cell) (changed : (p q : ℕ) → after p q ≡ eliminated remain k at p q) where
        pair_is : (i j : ℕ) → i < length points → j < length points → is_pair remain k i j
            ≡ (not (i == j) && not (is_in (point_at points k ∷ es) (point_at points i) || is_in (point_at points k ∷ es) (point_at points j)))
        pair_is i j li lj =
            rw (h.remaining i li, h.remaining j lj, same i li, same j lj)
            (tests (i == j) (point_at points i == point_at points k) (point_at points j == point_at points k) (is_in es (point_at points i))
            (is_in es (point_at points j))) where
              same : (i : ℕ) → i < length points → (i == k) ≡ (point_at points i == point_at points k)
              same i li = elim (i == k) as (λ b. (i == k) ≡ b → b ≡ (point_at points i == point_at points k)) [
                | true ↦ λ t. let e : i ≡ k = grind (arith, nat_tests) in let f = ap (point_at points) e in grind (arith, nat_tests)
                | false ↦ λ t. let ne : i ≢ k =
                    grind (arith, nat_tests) in let f : point_at points i ≢ point_at points k = λ e. ne (ground.apart i k li lk e) in grind (arith, nat_tests)
              ] refl

              tests : (d a c ri rj : Bool) → (not d && not a && not c && not ri && not rj) ≡ (not d && not ((ri || a) || (rj || c)))
              tests true a c ri rj = refl
              tests false true c true rj = refl
              tests false true c false rj = refl
              tests false false true true rj = refl
              tests false false true false true = refl
              tests false false true false false = refl
              tests false false false true rj = refl
              tests false false false false true = refl
              tests false false false false false = refl

        neither : (a b c d : Bool) → ((a || b) || (c || d)) ≡ false → (a ≡ false) × (b ≡ false) × (c ≡ false) × (d ≡ false)
        neither true b c d g = absurd (cc)
        neither false true c d g = absurd (cc)
        neither false false true d g = absurd (cc)
        neither false false false d g = (refl, refl, refl, g)

        cells_after : (i j : ℕ) → i < length points → j < length points → i ≢ j
            → weight_at (after i j) ≡ forward_of arcs (point_at points k ∷ es) (point_at points i) (point_at points j)
        cells_after i j li lj apart =
            let x = point_at points i in
            let y = point_at points j in
            let z = point_at points k in
            let differ : (i == j) ≡ false = grind (arith, nat_tests) in
            elim (is_in (z ∷ es) x || is_in (z ∷ es) y) as
            (λ b. (is_in (z ∷ es) x || is_in (z ∷ es) y) ≡ b → weight_at (after i j) ≡ forward_of arcs (z ∷ es) x y) [
              | true ↦ λ t.
                  let same : is_pair remain k i j ≡ false = pair_is i j li lj ∙ rw (differ, t) refl in
                  ap weight_at (changed i j ∙ rw same refl) ∙ h.cells i j li lj apart ∙ sym (forward-kept arcs z es x y t)
              | false ↦ λ t.
                  let some : is_pair remain k i j ≡ true = pair_is i j li lj ∙ rw (differ, t) refl in
                  let out = neither (is_in es x) (x == z) (is_in es y) (y == z) t in
                  let i_k : i ≢ k = λ e. (let f = ap (point_at points) e in let g = out.1 in grind (arith, nat_tests)) in
                  let k_j : k ≢ j = λ e. (let f = ap (point_at points) e in let g = out.3 in grind (arith, nat_tests)) in
                  ap weight_at (changed i j ∙ rw some refl)
                  ∙ weight-through k (at i j) (at i k) (at k j)
                  ∙ rw (open_cell i j li lj apart out.0 out.2, open_cell i k li lk i_k out.0 fresh, open_cell k j lk lj k_j fresh out.2)
                  (sym (forward-whole arcs (z ∷ es) x y (rw (out.0, out.1) refl) (rw (out.2, out.3) refl)))
            ] refl

        remaining_after : (p : ℕ) → p < length points → remains (set remain k false) p ≡ not (is_in (point_at points k ∷ es) (point_at points p))
        remaining_after p l =
            elim (p == k) as (λ b. (p == k) ≡ b
            → remains (set remain k false) p ≡ not (is_in es (point_at points p) || (point_at points p == point_at points k))) [
              | true ↦ λ t.
                  let e : p ≡ k = grind (arith, nat_tests) in
                  let f : (point_at points p == point_at points k) ≡ true = (let g = ap (point_at points) e in grind (arith, nat_tests)) in
                  let m = h.len in
                  let gone : remains (set remain k false) p ≡ false = rw e (get_or-set_same remain k false false (omega arith)) in
                  gone ∙ sym (ap not (ap (λ b. is_in es (point_at points p) || b) f ∙ or-true (is_in es (point_at points p))))
              | false ↦ λ t.
                  let apart : p ≢ k = grind (arith, nat_tests) in
                  let ne : point_at points p ≢ point_at points k = λ e. apart (ground.apart p k l lk e) in
                  let f : (point_at points p == point_at points k) ≡ false = grind (arith, nat_tests) in
                  get_or-set_other remain k p false false apart ∙ h.remaining p l
                  ∙ ap not (sym (or-false (is_in es (point_at points p))) ∙ sym (ap (λ b. is_in es (point_at points p) || b) f))
            ] refl

        pub eliminates_more : ((m : ℕ) → is_below remain at k m ≡ false) → IsEliminated points arcs (point_at points k ∷ es) after (set remain k false)
        eliminates_more clear = record {
          cells = cells_after;
          none_below = stays arcs es (point_at points k) h.none_below (sums clear);
          remaining = remaining_after;
          len = length-set remain k false ∙ h.len;
        }
