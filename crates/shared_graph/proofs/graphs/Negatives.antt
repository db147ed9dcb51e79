-- Which sums below 0 the places have: first_at, first_none, negative_sums, below_is, none_least, some_least.
use Rattle.std.proofs.Common.{zero, suc, ◌≡◌, ◌≢◌, ℕ, ◌<◌, List, [], ◌∷◌, Bool, true, false, ◌&&◌, not, Option, Some, None, ap, sym, ◌∙◌, refl, arith}
use Rattle.std.proofs.Common.{inl, inr, length, subst, get_or}
use Rattle.std.specs.Prelude.{◌==◌, is_some, if◌then◌else◌}
use Rattle.std.proofs.lemmas.Bool.{cases_eq, and_parts}
use Rattle.std.proofs.lemmas.Bool.Decides.{nat_tests}
use Rattle.std.proofs.lemmas.List.{get_or_read}
use Rattle.std.proofs.Math.Bool.{and-false}
use Rattle.stn_walk.specs.Eliminations.{is_in}
use Rattle.dist_rows.specs.declared.cell.Cell.{Cell}
use Rattle.elim_step.specs.Eliminated.{point_at, weight_at}
use Rattle.elim_step.specs.Eliminates.{remains, is_below, is_negative as is_cell_negative}
use Rattle.elim_step.proofs.Blocks.{remains-within}
use Rattle.shared_graph.specs.Graphs.{places_in, Fields, GraphView, IsGraph}
use Rattle.shared_graph.specs.Weights.{forward, sums_below, is_negative, first_passing, least_negative}
use Rattle.shared_graph.proofs.graphs.Telling.{none_to_itself, points_differ}

-- the first place whose point passes
pub first_at : (test : ℕ → Bool) (xs : List ℕ) (k : ℕ) → k < length xs → test (point_at xs k) ≡ true
    → ((m : ℕ) → m < k → test (point_at xs m) ≡ false) → first_passing test xs ≡ Some (point_at xs k)
first_at test [] k low on off = absurd (omega arith)
first_at test (x ∷ xs) zero low on off = ap (λ b. if b then Some x else first_passing test xs) on
first_at test (x ∷ xs) (suc k) low on off =
    ap (λ b. if b then Some x else first_passing test xs) (off 0 (omega arith)) ∙ first_at test xs k (omega arith) on (λ m lt. off (suc m) (omega arith))

pub first_none : (test : ℕ → Bool) (xs : List ℕ) → ((m : ℕ) → m < length xs → test (point_at xs m) ≡ false) → first_passing test xs ≡ None
first_none test [] off = refl
first_none test (x ∷ xs) off =
    ap (λ b. if b then Some x else first_passing test xs) (off 0 (omega arith)) ∙ first_none test xs (λ m lt. off (suc m) (omega arith))

negative_sums : (x y : Option Cell) → is_cell_negative x y ≡ sums_below (weight_at x) (weight_at y)
negative_sums None y = refl
negative_sums (Some x) None = refl
negative_sums (Some x) (Some y) = refl

no_sum : (a b : Bool) → false ≡ (a && not true && b)
no_sum true b = refl
no_sum false b = refl

all_sums : (a b : Bool) → (a && b) ≡ (a && not false && b)
all_sums true b = refl
all_sums false b = refl

module _ (g : Fields) (h : IsGraph g) (inside : (p q : ℕ) → is_some (g.at p q) ≡ true → (p < g.places) × (q < g.places) × (p ≢ q)) where
  -- the places that sum below 0 with one that remains are those whose points do
  below_is : (k m : ℕ) → k < length g.points → m < length g.points
      → is_below g.remain g.at k m ≡ is_negative g.face g.state (point_at g.points k) (point_at g.points m)
  below_is k m lk lm =
      let x = point_at g.points k in
      let y = point_at g.points m in
      elim (cases_eq m k) [
        | inl e ↦
            let same : (y == x) ≡ true = (let f = ap (point_at g.points) e in grind (arith, nat_tests)) in
            let none : is_cell_negative (g.at k m) (g.at m k) ≡ false =
            ap (λ n. is_cell_negative (g.at k n) (g.at n k)) e ∙ ap (λ o. is_cell_negative o o) (none_to_itself g h inside k) in
            ap (λ b. remains g.remain m && b) none ∙ and-false (remains g.remain m)
            ∙ no_sum (not (is_in g.state.order y)) (sums_below (forward g.face g.state x y) (forward g.face g.state y x))
            ∙ sym (ap (λ b. not (is_in g.state.order y) && not b && sums_below (forward g.face g.state x y) (forward g.face g.state y x)) same)
        | inr ne ↦
            let differ : (y == x) ≡ false = (let f = points_differ g h inside m k lm lk ne in grind (arith, nat_tests)) in
            let out : weight_at (g.at k m) ≡ forward g.face g.state x y = h.cells.cells k m lk lm (λ e. ne (sym e)) in
            let back : weight_at (g.at m k) ≡ forward g.face g.state y x = h.cells.cells m k lm lk ne in
            let there = h.cells.remaining m lm in
            let sums = negative_sums (g.at k m) (g.at m k) ∙ (λ t. sums_below (out t) (back t)) in
            (λ t. there t && sums t)
            ∙ all_sums (not (is_in g.state.order y)) (sums_below (forward g.face g.state x y) (forward g.face g.state y x))
            ∙ sym (ap (λ b. not (is_in g.state.order y) && not b && sums_below (forward g.face g.state x y) (forward g.face g.state y x)) differ)
      ]

  pub none_here : (k : ℕ) → k < length g.points → ((m : ℕ) → is_below g.remain g.at k m ≡ false)
      → least_negative g.face g.state (point_at g.points k) ≡ None
  none_here k lk clear =
      subst (λ ps. first_passing (is_negative g.face g.state (point_at g.points k)) ps ≡ None) h.points
      (first_none (is_negative g.face g.state (point_at g.points k)) g.points (λ m lm. sym (below_is k m lk lm) ∙ clear m))

  below_within : (k i : ℕ) → is_below g.remain g.at k i ≡ true → i < length g.points
  below_within k i below =
      let low = remains-within g.remain i (and_parts (remains g.remain i) (is_cell_negative (g.at k i) (g.at i k)) below).0 in
      let len = h.cells.len in
      omega arith

  pub some_here : (k i : ℕ) → k < length g.points → is_below g.remain g.at k i ≡ true → ((m : ℕ) → m < i → is_below g.remain g.at k m ≡ false)
      → least_negative g.face g.state (point_at g.points k) ≡ Some (point_at g.points i)
  some_here k i lk below least =
      let li = below_within k i below in
      subst (λ ps. first_passing (is_negative g.face g.state (point_at g.points k)) ps ≡ Some (point_at g.points i)) h.points
      (first_at (is_negative g.face g.state (point_at g.points k)) g.points i li (sym (below_is k i lk li) ∙ below)
      (λ m lt. sym (below_is k m lk (omega arith)) ∙ least m lt))

  -- the answer of a search for a place that sums below 0 with one, for a list of truth values and a view that have another name there
  pub none_least : (v : GraphView) → record { face = g.face; state = g.state } ≡ v → (x k : ℕ) (remain : List Bool) → remain ≡ g.remain
      → k < length (places_in v.face) → point_at (places_in v.face) k ≡ x → ((m : ℕ) → is_below remain g.at k m ≡ false)
      → least_negative v.face v.state x ≡ None
  none_least v e = subst
      (λ (v : GraphView). (x k : ℕ) (remain : List Bool) → remain ≡ g.remain → k < length (places_in v.face) → point_at (places_in v.face) k ≡ x
      → ((m : ℕ) → is_below remain g.at k m ≡ false) → least_negative v.face v.state x ≡ None) e
      (λ x k remain same lk is clear.
      let many = ap length h.points in
      ap (least_negative g.face g.state) (sym is ∙ sym (ap (λ ps. point_at ps k) h.points))
      ∙ none_here k (omega arith) (λ m. ap (λ r. is_below r g.at k m) (sym same) ∙ clear m))

  pub some_least : (v : GraphView) → record { face = g.face; state = g.state } ≡ v → (x k i z : ℕ) (remain : List Bool) → remain ≡ g.remain
      → k < length (places_in v.face) → point_at (places_in v.face) k ≡ x → is_below remain g.at k i ≡ true
      → ((m : ℕ) → m < i → is_below remain g.at k m ≡ false) → z ≡ get_or g.points i z → least_negative v.face v.state x ≡ Some z
  some_least v e = subst
      (λ (v : GraphView). (x k i z : ℕ) (remain : List Bool) → remain ≡ g.remain → k < length (places_in v.face) → point_at (places_in v.face) k ≡ x
      → is_below remain g.at k i ≡ true → ((m : ℕ) → m < i → is_below remain g.at k m ≡ false) → z ≡ get_or g.points i z
      → least_negative v.face v.state x ≡ Some z) e
      (λ x k i z remain same lk is below least read.
      let many = ap length h.points in
      let here = ap (λ r. is_below r g.at k i) (sym same) ∙ below in
      ap (least_negative g.face g.state) (sym is ∙ sym (ap (λ ps. point_at ps k) h.points))
      ∙ some_here k i (omega arith) here (λ m lt. ap (λ r. is_below r g.at k m) (sym same) ∙ least m lt)
      ∙ ap (λ n. Some n) (sym (get_or_read g.points i z (below_within k i here) read 0)))
