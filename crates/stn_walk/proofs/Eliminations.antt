-- Cells under elimination are inner least weights.
use Rattle.std.proofs.Common.{◌≡◌, ◌≢◌, ℕ, ◌<◌, List, [], ◌∷◌, ◌++◌, Bool, true, false, ◌&&◌, ◌||◌, Option, Some, None, ap, ◌∙◌, refl, arith, inl, inr, ◌⊎◌}
use Rattle.std.specs.Prelude.{ℤ, pos, ◌≤ℤ◌, ◌<ℤ◌, Contains, ◌==◌, int_lt, if◌then◌else◌}
use Rattle.std.proofs.lemmas.Bool.Decides.{nat_tests}
use Rattle.std.proofs.lemmas.Int.{ints}
use Rattle.std.proofs.lemmas.List.Elements.{Contains-append_left, Contains-append_right, Contains-push, Contains-push_cases, Contains-append_cases}
use Rattle.stn_model.specs.declared.ids.Constraint.{Constraint}
use Rattle.stn_model.specs.ArcWalks.{arcs_weight, IsInner, IsInnerLeast, NoNegative}
use Rattle.stn_walk.specs.Eliminations.{IsNotBelow, with_point, lesser, is_in, bound_of, cell_of, before_both, CellsAreLeast, StaysNonNegative}
use Rattle.stn_walk.proofs.ArcWalks.{arcs_weight-append}
use Rattle.stn_walk.proofs.Visits.{inner_wider, inner_joined, inner_cut, least_from, none_from, eliminates, wider}

-- closed walks at k
closed_at : (inner : ℕ → Bool) (arcs : List Constraint) (k : ℕ) → NoNegative inner arcs → (w : List Constraint) → IsInner (with_point k inner) arcs k k w → pos 0 ≤ℤ arcs_weight w
closed_at inner arcs k none_below w h = least_from inner arcs k k (pos 0) (none_below k) (none_below k) w h

-- two cells that are least, of walks that are there
sums_up : (inner : ℕ → Bool) (arcs : List Constraint) (k p : ℕ) (pk kp : Option ℤ) → NoNegative inner arcs
    → IsInnerLeast inner arcs p k pk → IsInnerLeast inner arcs k p kp → IsNotBelow pk kp
    → (front rest : List Constraint) → IsInner inner arcs p k front → IsInner (with_point k inner) arcs k p rest → pos 0 ≤ℤ arcs_weight (front ++ rest)
sums_up inner arcs k p None kp none_below is_pk is_kp sum front rest to from = absurd (is_pk front to)
sums_up inner arcs k p (Some a) None none_below is_pk is_kp sum front rest to from = absurd (none_from inner arcs k p is_kp rest from)
sums_up inner arcs k p (Some a) (Some b) none_below is_pk is_kp sum front rest to from =
    let s = arcs_weight-append front rest in
    let f = is_pk.1 front to in
    let r = least_from inner arcs k p b (none_below k) is_kp.1 rest from in
    omega (arith, ints)

-- where no other point outside has two cells with k that sum below 0, no closed walk is negative after k is eliminated
pub stays_nonnegative : (inner : ℕ → Bool) (arcs : List Constraint) (k : ℕ) (cell : ℕ → ℕ → Option ℤ) → NoNegative inner arcs
    → ((i j : ℕ) → IsInnerLeast inner arcs i j (cell i j))
    → ((p : ℕ) → inner p ≡ false → p ≢ k → IsNotBelow (cell p k) (cell k p))
    → NoNegative (with_point k inner) arcs
stays_nonnegative inner arcs k cell none_below least sums p w h =
    elim (p == k) as (λ b. (p == k) ≡ b → pos 0 ≤ℤ arcs_weight w) [
      | true ↦ λ t. let e : p ≡ k = grind (arith, nat_tests) in closed_at inner arcs k none_below w (rw e at h)
      | false ↦ λ t. let apart : p ≢ k = grind (arith, nat_tests) in
          elim (inner_cut inner arcs k p p w h) [
            | inl g ↦ none_below p w g
            | inr c ↦ elim (inner p) as (λ b. inner p ≡ b → pos 0 ≤ℤ arcs_weight w) [
              | true ↦ λ here.
                  let turned = closed_at inner arcs k none_below (c.rest ++ c.front)
                  (inner_joined (with_point k inner) arcs k p k c.rest c.front (wider inner k p here) c.from
                  (inner_wider inner arcs k p k c.front c.to)) in
                  let e = ap arcs_weight c.whole in
                  let s = arcs_weight-append c.front c.rest in
                  let r = arcs_weight-append c.rest c.front in
                  omega (arith, ints)
              | false ↦ λ away. rw c.whole (sums_up inner arcs k p (cell p k) (cell k p) none_below (least p k) (least k p) (sums p away apart) c.front c.rest c.to c.from)
            ] refl
          ]
    ] refl

-- the least bound among the arcs from i to j
unfoldable pub LeastArc : List Constraint → ℕ → ℕ → Option ℤ → Type 0
LeastArc arcs i j None = (a : Constraint) → Contains arcs a → a.from.0 ≡ i → a.to.0 ≡ j → ⊥
LeastArc arcs i j (Some b) = ((a : Constraint) × Contains arcs a × (a.from.0 ≡ i) × (a.to.0 ≡ j) × (a.bound ≡ b))
    × ((a : Constraint) → Contains arcs a → a.from.0 ≡ i → a.to.0 ≡ j → b ≤ℤ a.bound)

first_or_later : (a : Constraint) (arcs : List Constraint) (x : Constraint) → Contains (a ∷ arcs) x → (a ≡ x) ⊎ Contains arcs x
first_or_later a arcs x h = elim (Contains-append_cases (a ∷ []) arcs x h) [
  | inl f ↦ elim (Contains-push_cases [] a x f) [ inl e ↦ absurd (let low : e.0 < 0 = e.1 in omega arith) | inr e ↦ inl e ]
  | inr l ↦ inr l
]

arc_other : (a : Constraint) (arcs : List Constraint) (i j : ℕ) (o : Option ℤ) → ((a.from.0 == i) && (a.to.0 == j)) ≡ false → LeastArc arcs i j o → LeastArc (a ∷ arcs) i j o
unfolding LeastArc
arc_other a arcs i j None t h = λ x c f e. elim (first_or_later a arcs x c) [
  | inl s ↦ (let from : a.from.0 ≡ i = ap (λ (y : Constraint). y.from.0) s ∙ f in let to : a.to.0 ≡ j = ap (λ (y : Constraint). y.to.0) s ∙ e in absurd (grind (arith, nat_tests)))
  | inr l ↦ h x l f e
]
arc_other a arcs i j (Some b) t h = (
  (h.0.0, Contains-append_right (a ∷ []) arcs h.0.0 h.0.1, h.0.2, h.0.3, h.0.4),
  λ x c f e. elim (first_or_later a arcs x c) [
    | inl s ↦ (let from : a.from.0 ≡ i = ap (λ (y : Constraint). y.from.0) s ∙ f in let to : a.to.0 ≡ j = ap (λ (y : Constraint). y.to.0) s ∙ e in absurd (grind (arith, nat_tests)))
    | inr l ↦ h.1 x l f e
  ],
)

arc_here : (a : Constraint) (arcs : List Constraint) (i j : ℕ) (o : Option ℤ) → a.from.0 ≡ i → a.to.0 ≡ j → LeastArc arcs i j o → LeastArc (a ∷ arcs) i j (lesser o (Some a.bound))
unfolding LeastArc
arc_here a arcs i j None from to h = (
  (a, Contains-append_left (a ∷ []) arcs a (Contains-push [] a), from, to, refl),
  λ x c f e. elim (first_or_later a arcs x c) [ inl s ↦ (let b = ap (λ (y : Constraint). y.bound) s in omega (arith, ints)) | inr l ↦ absurd (h x l f e) ],
)
arc_here a arcs i j (Some b) from to h =
    elim (int_lt a.bound b) as (λ t. int_lt a.bound b ≡ t → LeastArc (a ∷ arcs) i j (if t then Some a.bound else Some b)) [
      | true ↦ λ t. let lt : a.bound <ℤ b = grind (arith, ints) in (
        (a, Contains-append_left (a ∷ []) arcs a (Contains-push [] a), from, to, refl),
        λ x c f e. elim (first_or_later a arcs x c) [ inl s ↦ (let q = ap (λ (y : Constraint). y.bound) s in omega (arith, ints)) | inr l ↦ (let q = h.1 x l f e in omega (arith, ints)) ],
      )
      | false ↦ λ t. let le : b ≤ℤ a.bound = grind (arith, ints) in (
        (h.0.0, Contains-append_right (a ∷ []) arcs h.0.0 h.0.1, h.0.2, h.0.3, h.0.4),
        λ x c f e. elim (first_or_later a arcs x c) [ inl s ↦ (let q = ap (λ (y : Constraint). y.bound) s in omega (arith, ints)) | inr l ↦ h.1 x l f e ],
      )
    ] refl

pub arc_least : (arcs : List Constraint) (i j : ℕ) → LeastArc arcs i j (bound_of arcs i j)
unfolding LeastArc
arc_least [] i j = λ a c f e. absurd (let low : c.0 < 0 = c.1 in omega arith)
arc_least (a ∷ arcs) i j =
    elim ((a.from.0 == i) && (a.to.0 == j)) as (λ t. ((a.from.0 == i) && (a.to.0 == j)) ≡ t →
    LeastArc (a ∷ arcs) i j (if t then lesser (bound_of arcs i j) (Some a.bound) else bound_of arcs i j)) [
      | true ↦ λ t. arc_here a arcs i j (bound_of arcs i j) (grind (arith, nat_tests)) (grind (arith, nat_tests)) (arc_least arcs i j)
      | false ↦ λ t. arc_other a arcs i j (bound_of arcs i j) t (arc_least arcs i j)
    ] refl

-- a walk with no inner point is one arc
one_arc : (arcs : List Constraint) (i j : ℕ) (a : Constraint) (w : List Constraint) → IsInner (is_in []) arcs i j (a ∷ w) → (w ≡ []) × (a.to.0 ≡ j)
one_arc arcs i j a [] h = (refl, h.2)
one_arc arcs i j a (b ∷ w) h = absurd (let f : false ≡ true = h.2.0 in cc)

walks_are_arcs : (arcs : List Constraint) (i j : ℕ) (o : Option ℤ) → LeastArc arcs i j o → IsInnerLeast (is_in []) arcs i j o
unfolding LeastArc
walks_are_arcs arcs i j None h = λ w g. at w g where
  at : (w : List Constraint) → IsInner (is_in []) arcs i j w → ⊥
  at [] g = g
  at (a ∷ w) g = h a g.0 g.1 (one_arc arcs i j a w g).1
walks_are_arcs arcs i j (Some b) h = ((h.0.0 ∷ [], (h.0.1, h.0.2, h.0.3), (let e = h.0.4 in omega (arith, ints))), at) where
  at : (w : List Constraint) → IsInner (is_in []) arcs i j w → b ≤ℤ arcs_weight w
  at [] g = absurd g
  at (a ∷ w) g = let o = one_arc arcs i j a w g in let l = h.1 a g.0 g.1 o.1 in rw o.0 (omega (arith, ints))

pub bound-least : (arcs : List Constraint) (i j : ℕ) → IsInnerLeast (is_in []) arcs i j (bound_of arcs i j)
bound-least arcs i j = walks_are_arcs arcs i j (bound_of arcs i j) (arc_least arcs i j)

-- the cells of plain elimination are inner least weights
pub cell-least : (arcs : List Constraint) (es : List ℕ) → NoNegative (is_in es) arcs → (i j : ℕ) → IsInnerLeast (is_in es) arcs i j (cell_of arcs es i j)
cell-least arcs [] none_below i j = bound-least arcs i j
cell-least arcs (k ∷ es) none_below i j =
    let before : NoNegative (is_in es) arcs = λ p w h. none_below p w (inner_wider (is_in es) arcs k p p w h) in
    eliminates (is_in es) arcs k i j (cell_of arcs es i j) (cell_of arcs es i k) (cell_of arcs es k j)
    (before k) (cell-least arcs es before i j) (cell-least arcs es before i k) (cell-least arcs es before k j)

pub cells_are_least : CellsAreLeast
cells_are_least = cell-least

pub stays : StaysNonNegative
stays arcs es k none_below sums = stays_nonnegative (is_in es) arcs k (cell_of arcs es) none_below (cell-least arcs es none_below) sums

-- all of them come before two points that are not eliminated
pub before-whole : (es : List ℕ) (i j : ℕ) → is_in es i ≡ false → is_in es j ≡ false → before_both es i j ≡ es
before-whole [] i j h g = refl
before-whole (k ∷ es) i j h g = rw (h, g) refl

-- the points before both are eliminated
pub before-in : (es : List ℕ) (i j p : ℕ) → is_in (before_both es i j) p ≡ true → is_in es p ≡ true
before-in [] i j p h = h
before-in (k ∷ es) i j p h =
    elim (is_in (k ∷ es) i || is_in (k ∷ es) j) as (λ b. is_in (if b then before_both es i j else k ∷ es) p ≡ true → is_in (k ∷ es) p ≡ true) [
      | true ↦ λ g. ap (λ b. b || (p == k)) (before-in es i j p g)
      | false ↦ λ g. g
    ] h
