-- A walk is cut at its visits to a point.
use Rattle.std.proofs.Common.{zero, suc, ◌≡◌, ℕ, ◌≤◌, List, [], ◌∷◌, ◌++◌, Bool, true, false, ◌||◌, Option, Some, None, ap, sym, ◌∙◌, refl, arith, length, length-append, inl, inr, ◌⊎◌, subst}
use Rattle.std.specs.Prelude.{ℤ, pos, ◌+ℤ◌, ◌≤ℤ◌, ◌<ℤ◌, ◌==◌, int_lt, if◌then◌else◌}
use Rattle.std.proofs.lemmas.Bool.Decides.{nat_tests}
use Rattle.std.proofs.lemmas.Int.{ints}
use Rattle.stn_model.specs.declared.ids.Constraint.{Constraint}
use Rattle.stn_model.specs.ArcWalks.{arcs_weight, GoesOn, IsInner, IsInnerLeast}
use Rattle.stn_walk.proofs.ArcWalks.{arcs_weight-append}
use Rattle.stn_walk.specs.Eliminations.{with_point, lesser, sum_of}

pub wider : (inner : ℕ → Bool) (k m : ℕ) → inner m ≡ true → with_point k inner m ≡ true
wider inner k m h = rw h refl

pub goes_wider : (inner : ℕ → Bool) (arcs : List Constraint) (k m j : ℕ) (w : List Constraint) → GoesOn inner arcs m j w → GoesOn (with_point k inner) arcs m j w
goes_wider inner arcs k m j [] h = h
goes_wider inner arcs k m j (a ∷ w) h = (wider inner k m h.0, h.1, h.2, goes_wider inner arcs k a.to.0 j w h.3)

pub inner_wider : (inner : ℕ → Bool) (arcs : List Constraint) (k i j : ℕ) (w : List Constraint) → IsInner inner arcs i j w → IsInner (with_point k inner) arcs i j w
inner_wider inner arcs k i j [] h = h
inner_wider inner arcs k i j (a ∷ w) h = (h.0, h.1, goes_wider inner arcs k a.to.0 j w h.2)

-- the same of a test that lets more through
goes_in : (inner more : ℕ → Bool) (arcs : List Constraint) (m j : ℕ) (w : List Constraint)
    → ((p : ℕ) → inner p ≡ true → more p ≡ true) → GoesOn inner arcs m j w → GoesOn more arcs m j w
goes_in inner more arcs m j [] up h = h
goes_in inner more arcs m j (a ∷ w) up h = (up m h.0, h.1, h.2, goes_in inner more arcs a.to.0 j w up h.3)

pub inner_in : (inner more : ℕ → Bool) (arcs : List Constraint) (i j : ℕ) (w : List Constraint)
    → ((p : ℕ) → inner p ≡ true → more p ≡ true) → IsInner inner arcs i j w → IsInner more arcs i j w
inner_in inner more arcs i j [] up h = h
inner_in inner more arcs i j (a ∷ w) up h = (h.0, h.1, goes_in inner more arcs a.to.0 j w up h.2)

-- there is at most one least weight
pub least_unique : (inner : ℕ → Bool) (arcs : List Constraint) (i j : ℕ) (x y : Option ℤ) → IsInnerLeast inner arcs i j x → IsInnerLeast inner arcs i j y → x ≡ y
least_unique inner arcs i j None None h g = refl
least_unique inner arcs i j None (Some b) h g = absurd (h g.0.0 g.0.1)
least_unique inner arcs i j (Some a) None h g = absurd (g h.0.0 h.0.1)
least_unique inner arcs i j (Some a) (Some b) h g =
    let low = h.1 g.0.0 g.0.1 in
    let high = g.1 h.0.0 h.0.1 in
    let e : a ≡ b = omega (arith, ints, h.0.2, g.0.2) in
    ap (λ (x : ℤ). Some x) e

-- two walks that meet in a point of the set
pub goes_joined : (inner : ℕ → Bool) (arcs : List Constraint) (k m j : ℕ) (v w : List Constraint)
    → inner k ≡ true → GoesOn inner arcs m k v → IsInner inner arcs k j w → GoesOn inner arcs m j (v ++ w)
goes_joined inner arcs k m j [] [] here h g = absurd g
goes_joined inner arcs k m j [] (b ∷ w) here h g = (ap inner h ∙ here, g.0, g.1 ∙ sym h, g.2)
goes_joined inner arcs k m j (a ∷ v) w here h g = (h.0, h.1, h.2, goes_joined inner arcs k a.to.0 j v w here h.3 g)

pub inner_joined : (inner : ℕ → Bool) (arcs : List Constraint) (i k j : ℕ) (v w : List Constraint)
    → inner k ≡ true → IsInner inner arcs i k v → IsInner inner arcs k j w → IsInner inner arcs i j (v ++ w)
inner_joined inner arcs i k j [] w here h g = absurd h
inner_joined inner arcs i k j (a ∷ v) w here h g = (h.0, h.1, goes_joined inner arcs k a.to.0 j v w here h.2 g)

-- a walk is cut at its first visit to k
pub record Cut (goes : List Constraint → Type 0) (after : List Constraint → Type 0) (w : List Constraint) : Type 0 where
  pub front : List Constraint
  pub rest : List Constraint
  pub whole : w ≡ front ++ rest
  pub to : goes front
  pub from : after rest

or_left : (a b : Bool) → (a || b) ≡ true → b ≡ false → a ≡ true
or_left true b h f = refl
or_left false b h f = absurd (cc)

pub goes_cut : (inner : ℕ → Bool) (arcs : List Constraint) (k m j : ℕ) (w : List Constraint) → GoesOn (with_point k inner) arcs m j w
    → GoesOn inner arcs m j w ⊎ Cut (GoesOn inner arcs m k) (IsInner (with_point k inner) arcs k j) w
goes_cut inner arcs k m j [] h = inl h
goes_cut inner arcs k m j (a ∷ w) h =
    elim (m == k) as (λ b. (m == k) ≡ b → GoesOn inner arcs m j (a ∷ w) ⊎ Cut (GoesOn inner arcs m k) (IsInner (with_point k inner) arcs k j) (a ∷ w)) [
      | true ↦ λ t. let e : m ≡ k = grind (arith, nat_tests) in inr (record { front = []; rest = a ∷ w; whole = refl; to = e; from = (h.1, h.2 ∙ e, h.3) })
      | false ↦ λ t.
          let here : inner m ≡ true = or_left (inner m) (m == k) h.0 t in
          elim (goes_cut inner arcs k a.to.0 j w h.3) [
            | inl g ↦ inl (here, h.1, h.2, g)
            | inr c ↦ inr (record { front = a ∷ c.front; rest = c.rest; whole = ap (λ x. a ∷ x) c.whole; to = (here, h.1, h.2, c.to); from = c.from })
          ]
    ] refl

pub inner_cut : (inner : ℕ → Bool) (arcs : List Constraint) (k i j : ℕ) (w : List Constraint) → IsInner (with_point k inner) arcs i j w
    → IsInner inner arcs i j w ⊎ Cut (IsInner inner arcs i k) (IsInner (with_point k inner) arcs k j) w
inner_cut inner arcs k i j [] h = absurd h
inner_cut inner arcs k i j (a ∷ w) h =
    elim (goes_cut inner arcs k a.to.0 j w h.2) [
      | inl g ↦ inl (h.0, h.1, g)
      | inr c ↦ inr (record { front = a ∷ c.front; rest = c.rest; whole = ap (λ x. a ∷ x) c.whole; to = (h.0, h.1, c.to); from = c.from })
    ]

shorter : (inner : ℕ → Bool) (arcs : List Constraint) (i k : ℕ) (w front rest : List Constraint) (n : ℕ)
    → w ≡ front ++ rest → IsInner inner arcs i k front → length w ≤ suc n → length rest ≤ n
shorter inner arcs i k w [] rest n e h short = absurd h
shorter inner arcs i k w (a ∷ front) rest n e h short = let l = ap length e in omega (arith, l, length-append front rest)

-- What holds of walks from k that do not come back to k, and goes over closed walks at k put before, holds of all walks from k
pub from_point : (inner : ℕ → Bool) (arcs : List Constraint) (k j : ℕ) (P : List Constraint → Type 0)
    → ((w : List Constraint) → IsInner inner arcs k j w → P w)
    → ((v w : List Constraint) → IsInner inner arcs k k v → P w → P (v ++ w))
    → (n : ℕ) (w : List Constraint) → length w ≤ n → IsInner (with_point k inner) arcs k j w → P w
from_point inner arcs k j P base step n [] short h = absurd h
from_point inner arcs k j P base step zero (a ∷ w) short h = absurd (omega arith)
from_point inner arcs k j P base step (suc n) (a ∷ w) short h =
    elim (inner_cut inner arcs k k j (a ∷ w) h) [
      | inl g ↦ base (a ∷ w) g
      | inr c ↦ subst P (sym c.whole) (step c.front c.rest c.to (from_point inner arcs k j P base step n c.rest (shorter inner arcs k k (a ∷ w) c.front c.rest n c.whole c.to short) c.from))
    ]

-- all walks from k are at least this heavy
pub least_from : (inner : ℕ → Bool) (arcs : List Constraint) (k j : ℕ) (b : ℤ)
    → ((w : List Constraint) → IsInner inner arcs k k w → pos 0 ≤ℤ arcs_weight w)
    → ((w : List Constraint) → IsInner inner arcs k j w → b ≤ℤ arcs_weight w)
    → (w : List Constraint) → IsInner (with_point k inner) arcs k j w → b ≤ℤ arcs_weight w
least_from inner arcs k j b closed least w h =
    from_point inner arcs k j (λ w. b ≤ℤ arcs_weight w) least (λ v w at_k le. let e = arcs_weight-append v w in let c = closed v at_k in omega (arith, ints)) (length w) w (omega arith) h

pub none_from : (inner : ℕ → Bool) (arcs : List Constraint) (k j : ℕ) → ((w : List Constraint) → IsInner inner arcs k j w → ⊥)
    → (w : List Constraint) → IsInner (with_point k inner) arcs k j w → ⊥
none_from inner arcs k j none w h = from_point inner arcs k j (λ w. ⊥) none (λ v w at_k f. f) (length w) w (omega arith) h

pub at_point : (k : ℕ) (inner : ℕ → Bool) → with_point k inner k ≡ true
at_point k inner = let same : (k == k) ≡ true = grind (arith, nat_tests) in ap (λ b. inner k || b) same ∙ elim (inner k) as (λ b. (b || true) ≡ true) [ true ↦ refl | false ↦ refl ]

Attained : (ℕ → Bool) → List Constraint → ℕ → ℕ → ℤ → Type 0
Attained inner arcs i j b = (w : List Constraint) × IsInner inner arcs i j w × (arcs_weight w ≡ b)

through_attained : (inner : ℕ → Bool) (arcs : List Constraint) (k i j : ℕ) (a b : ℤ)
    → Attained inner arcs i k a → Attained inner arcs k j b → Attained (with_point k inner) arcs i j (a +ℤ b)
unfolding Attained
through_attained inner arcs k i j a b (v, at_v, is_a) (w, at_w, is_b) = (
  v ++ w,
  inner_joined (with_point k inner) arcs i k j v w (at_point k inner) (inner_wider inner arcs k i k v at_v) (inner_wider inner arcs k k j w at_w),
  (let e = arcs_weight-append v w in omega (arith, ints)),
)

through_least : (inner : ℕ → Bool) (arcs : List Constraint) (k i j : ℕ) (a b : ℤ) → ((w : List Constraint) → IsInner inner arcs k k w → pos 0 ≤ℤ arcs_weight w)
    → ((w : List Constraint) → IsInner inner arcs i k w → a ≤ℤ arcs_weight w) → ((w : List Constraint) → IsInner inner arcs k j w → b ≤ℤ arcs_weight w)
    → (w : List Constraint) → Cut (IsInner inner arcs i k) (IsInner (with_point k inner) arcs k j) w → (a +ℤ b) ≤ℤ arcs_weight w
through_least inner arcs k i j a b closed least_a least_b w c =
    let e = ap arcs_weight c.whole in
    let s = arcs_weight-append c.front c.rest in
    let front = least_a c.front c.to in
    let rest = least_from inner arcs k j b closed least_b c.rest c.from in
    omega (arith, ints)

-- under the elimination of k, the lesser of a cell and the sum through k is the inner least arcs_weight over the set with k
pub eliminates : (inner : ℕ → Bool) (arcs : List Constraint) (k i j : ℕ) (ij ik kj : Option ℤ) → ((w : List Constraint) → IsInner inner arcs k k w → pos 0 ≤ℤ arcs_weight w)
    → IsInnerLeast inner arcs i j ij → IsInnerLeast inner arcs i k ik → IsInnerLeast inner arcs k j kj
    → IsInnerLeast (with_point k inner) arcs i j (lesser ij (sum_of ik kj))
unfolding Attained
eliminates inner arcs k i j None None kj closed is_ij is_ik is_kj = λ w h.
    elim (inner_cut inner arcs k i j w h) [ inl g ↦ is_ij w g | inr c ↦ is_ik c.front c.to ]
eliminates inner arcs k i j None (Some a) None closed is_ij is_ik is_kj = λ w h.
    elim (inner_cut inner arcs k i j w h) [ inl g ↦ is_ij w g | inr c ↦ none_from inner arcs k j is_kj c.rest c.from ]
eliminates inner arcs k i j None (Some a) (Some b) closed is_ij is_ik is_kj = (
  through_attained inner arcs k i j a b is_ik.0 is_kj.0,
  λ w h. elim (inner_cut inner arcs k i j w h) [ inl g ↦ absurd (is_ij w g) | inr c ↦ through_least inner arcs k i j a b closed is_ik.1 is_kj.1 w c ],
)
eliminates inner arcs k i j (Some x) None kj closed is_ij is_ik is_kj = (
  (is_ij.0.0, inner_wider inner arcs k i j is_ij.0.0 is_ij.0.1, is_ij.0.2),
  λ w h. elim (inner_cut inner arcs k i j w h) [ inl g ↦ is_ij.1 w g | inr c ↦ absurd (is_ik c.front c.to) ],
)
eliminates inner arcs k i j (Some x) (Some a) None closed is_ij is_ik is_kj = (
  (is_ij.0.0, inner_wider inner arcs k i j is_ij.0.0 is_ij.0.1, is_ij.0.2),
  λ w h. elim (inner_cut inner arcs k i j w h) [ inl g ↦ is_ij.1 w g | inr c ↦ absurd (none_from inner arcs k j is_kj c.rest c.from) ],
)
eliminates inner arcs k i j (Some x) (Some a) (Some b) closed is_ij is_ik is_kj =
    let both : (w : List Constraint) → IsInner (with_point k inner) arcs i j w → (x ≤ℤ arcs_weight w) ⊎ ((a +ℤ b) ≤ℤ arcs_weight w) =
    λ w h. elim (inner_cut inner arcs k i j w h) [ inl g ↦ inl (is_ij.1 w g) | inr c ↦ inr (through_least inner arcs k i j a b closed is_ik.1 is_kj.1 w c) ] in
    elim (int_lt (a +ℤ b) x) as (λ t. int_lt (a +ℤ b) x ≡ t → IsInnerLeast (with_point k inner) arcs i j (if t then Some (a +ℤ b) else Some x)) [
      | true ↦ λ t. (
        through_attained inner arcs k i j a b is_ik.0 is_kj.0,
        λ w h. elim (both w h) [ inl g ↦ (let lt : (a +ℤ b) <ℤ x = grind (arith, ints) in omega (arith, ints)) | inr g ↦ g ],
      )
      | false ↦ λ t. (
        (is_ij.0.0, inner_wider inner arcs k i j is_ij.0.0 is_ij.0.1, is_ij.0.2),
        λ w h. elim (both w h) [ inl g ↦ g | inr g ↦ (let le : x ≤ℤ (a +ℤ b) = grind (arith, ints) in omega (arith, ints)) ],
      )
    ] refl
