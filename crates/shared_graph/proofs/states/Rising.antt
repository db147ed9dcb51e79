-- Shared points are listed by rising number, so the first that passes a test is the least: points_rise, all_rise, passing_least, negatives_none,
-- negatives_least, below_least.
use Rattle.std.proofs.Common.{zero, suc, ◌≡◌, ◌≢◌, ℕ, ◌<◌, ◌≤◌, List, [], ◌∷◌, Bool, true, false, ◌&&◌, ◌||◌, not, Some, None, ap, sym, ◌∙◌, refl}
use Rattle.std.proofs.Common.{arith, inl, inr, length, get_or, map, subst}
use Rattle.std.specs.Prelude.{◌==◌, if◌then◌else◌, is_some}
use Rattle.std.specs.List.{AllPairs}
use Rattle.std.proofs.lemmas.Bool.{or_cases, cases_eq, false≢true}
use Rattle.std.proofs.Math.Bool.{or-true}
use Rattle.std.proofs.lemmas.Bool.Decides.{nat_tests}
use Rattle.stn_model.specs.ArcWalks.{IsInnerLeast}
use Rattle.stn_walk.specs.Eliminations.{is_in, before_both}
use Rattle.stn_walk.specs.Joins.{joined_of}
use Rattle.stn_walk.proofs.Joins.{joined-from_walk}
use Rattle.shared_graph.specs.Interfaces.{SharedPoint, InterfaceView, IsInterface, points_of, owner_in, is_listed}
use Rattle.shared_graph.specs.Refusals.{or_number, first_below}
use Rattle.shared_graph.specs.States.{State, meeting_of}
use Rattle.shared_graph.specs.Weights.{forward, is_joined, is_negative, sums_below, first_passing, least_negative}
use Rattle.shared_graph.proofs.states.Passing.{in_listed, listed_in, passing_none, passing_some, passing_in, below_none}
use Rattle.shared_graph.proofs.states.Keeps.{IsSound, cells_hold, joined_place, in_places}
use Rattle.shared_graph.proofs.networks.Verdicts.{below_there, three_true}

-- the numbers rise, from low on
abbrev pub Rises : ℕ → List ℕ → Type 0
Rises low [] = Unit {0}
Rises low (x ∷ xs) = (low ≤ x) × Rises (suc x) xs

abbrev number_of : SharedPoint → ℕ
number_of q = q.point

rises_from : (low : ℕ) (qs : List SharedPoint) → AllPairs (λ (q r : SharedPoint). q.point < r.point) qs
    → ((k : ℕ) (d : SharedPoint) → k < length qs → low ≤ (get_or qs k d).point)
    → Rises low (map number_of qs)
rises_from low [] pairs above = tt
rises_from low (q ∷ qs) pairs above = (
  above 0 q (omega arith),
  rises_from (suc q.point) qs (λ i j d lt inside. pairs (suc i) (suc j) d (omega arith) (omega arith))
      (λ k d lt. pairs 0 (suc k) d (omega arith) (omega arith)),
)

-- the points of an interface rise from 1 on, so with z they rise from 0 on
at_place : (qs : List SharedPoint) (k : ℕ) (d : SharedPoint) → k < length qs → is_in (map number_of qs) (get_or qs k d).point ≡ true
at_place [] k d lt = absurd (omega arith)
at_place (q ∷ qs) zero d lt = (let same : (q.point == q.point) ≡ true = grind (arith, nat_tests) in ap (λ b. is_in (map number_of qs) q.point || b) same
    ∙ or-true (is_in (map number_of qs) q.point))
at_place (q ∷ qs) (suc k) d lt = ap (λ b. b || ((get_or qs k d).point == q.point)) (at_place qs k d (omega arith))

points_above : (face : InterfaceView) → IsInterface face → (k : ℕ) (d : SharedPoint) → k < length face.points → 1 ≤ (get_or face.points k d).point
points_above face known k d lt =
    elim (cases_eq (get_or face.points k d).point 0) [
      | inl z ↦
          (let there : is_in (points_of face) 0 ≡ true = subst (λ (p : ℕ). is_in (points_of face) p ≡ true) z (at_place face.points k d lt) in
          let listed = in_listed face.points 0 there in
          let none : is_some (owner_in face 0) ≡ false = ap (λ o. is_some o) known.without_z in
          absurd (false≢true (sym none ∙ listed)))
      | inr other ↦ omega arith
    ]

pub points_rise : (face : InterfaceView) → IsInterface face → Rises 1 (points_of face)
points_rise face known = rises_from 1 face.points known.rising (points_above face known)

pub all_rise : (face : InterfaceView) → IsInterface face → Rises 0 (0 ∷ points_of face)
all_rise face known = (omega arith, points_rise face known)

pub rises_in : (low : ℕ) (xs : List ℕ) (p : ℕ) → Rises low xs → is_in xs p ≡ true → low ≤ p
rises_in low [] p h there = absurd (cc)
rises_in low (x ∷ xs) p h there = elim (or_cases (is_in xs p) (p == x) there) [
  | inl later ↦ (let more = rises_in (suc x) xs p h.1 later in let le = h.0 in omega arith)
  | inr here ↦ (let e : p ≡ x = grind (arith, nat_tests) in let le = h.0 in omega arith)
]

-- the first that passes is the least
pub passing_least : (test : ℕ → Bool) (low : ℕ) (xs : List ℕ) (i : ℕ) → Rises low xs → first_passing test xs ≡ Some i → (p : ℕ) → is_in xs p ≡ true → p < i
    → test p ≡ false
passing_least test low [] i h is p there lt = absurd (cc)
passing_least test low (x ∷ xs) i h is p there lt =
    elim (test x) as (λ b. test x ≡ b → (if b then Some x else first_passing test xs) ≡ Some i → test p ≡ false) [
      | true ↦ λ t g.
          (let e : x ≡ i = cc in
          elim (or_cases (is_in xs p) (p == x) there) [
            | inl later ↦ absurd (let more = rises_in (suc x) xs p h.1 later in omega arith)
            | inr here ↦ absurd (let same : p ≡ x = grind (arith, nat_tests) in omega arith)
          ])
      | false ↦ λ t g. elim (or_cases (is_in xs p) (p == x) there) [
        | inl later ↦ passing_least test (suc x) xs i h.1 g p later lt
        | inr here ↦ (let e : p ≡ x = grind (arith, nat_tests) in ap test e ∙ t)
      ]
    ] refl is

module _ (face : InterfaceView) (known : IsInterface face) (s : State) (sound : IsSound face s) (k : ℕ) where
  -- a point with a negative sum is a place
  negative_in : (p : ℕ) → is_negative face s k p ≡ true → is_in (0 ∷ points_of face) p ≡ true
  negative_in p bad =
      let parts = three_true (not (is_in s.order p)) (not (p == k)) (sums_below (forward face s k p) (forward face s p k)) bad in
      let cells = below_there (forward face s k p) (forward face s p k) parts.2 in
      let there = subst (IsInnerLeast (is_in (before_both s.order k p)) (meeting_of face s) k p) cells.2 (cells_hold face known s sound k p) in
      let joined : joined_of (meeting_of face s) (before_both s.order k p) k p ≡ true =
      joined-from_walk (meeting_of face s) (before_both s.order k p) k p there.0.0 there.0.1 in
      let differ : (k == p) ≡ false = (let d = parts.1 in let apart : p ≢ k = grind (arith, nat_tests) in let back : k ≢ p = λ e. apart (sym e) in
      grind (arith, nat_tests)) in
      let is : is_joined face s k p ≡ true = (λ t. not (differ t) && joined t) in
      in_places face known s sound p (joined_place face known s sound k p is)

  unless_in : (p : ℕ) → (is_in (0 ∷ points_of face) p ≡ true → is_negative face s k p ≡ false) → is_negative face s k p ≡ false
  unless_in p h = go (is_negative face s k p) refl where
    go : (b : Bool) → is_negative face s k p ≡ b → is_negative face s k p ≡ false
    go true t = h (negative_in p t)
    go false t = t

  pub negatives_none : least_negative face s k ≡ None → (p : ℕ) → is_negative face s k p ≡ false
  negatives_none none p = unless_in p (passing_none (is_negative face s k) (0 ∷ points_of face) none p)

  pub negatives_least : (i : ℕ) → least_negative face s k ≡ Some i
      → (is_negative face s k i ≡ true) × ((p : ℕ) → p < i → is_negative face s k p ≡ false)
  negatives_least i is = (
    passing_some (is_negative face s k) (0 ∷ points_of face) i is,
    λ p lt. unless_in p (λ there. passing_least (is_negative face s k) 0 (0 ∷ points_of face) i (all_rise face known) is p there lt),
  )

-- the least number below n that passes
pub below_least : (test : ℕ → Bool) (n i : ℕ) → first_below test n ≡ Some i → (i < n) × (test i ≡ true) × ((a : ℕ) → a < i → test a ≡ false)
below_least test zero i h = absurd (cc)
below_least test (suc n) i h =
    elim (first_below test n) as (λ o. first_below test n ≡ o → or_number o (if test n then Some n else None) ≡ Some i
    → (i < suc n) × (test i ≡ true) × ((a : ℕ) → a < i → test a ≡ false)) [
      | Some m ↦ λ t g.
          (let e : m ≡ i = cc in
          let r = below_least test n i (t ∙ ap (λ x. Some x) e) in
          let low = r.0 in
          (omega arith, r.1, r.2))
      | None ↦ λ t g. elim (test n) as (λ b. test n ≡ b → (if b then Some n else None) ≡ Some i
          → (i < suc n) × (test i ≡ true) × ((a : ℕ) → a < i → test a ≡ false)) [
            | true ↦ λ u f.
                (let e : n ≡ i = cc in
                (omega arith, ap test (sym e) ∙ u, λ a lt. below_none test n t a (omega arith)))
            | false ↦ λ u f. absurd (cc)
          ] refl g
    ] refl h

-- the first shared point that passes is the least, and the first of z and the shared points is
pub listed_least : (face : InterfaceView) → IsInterface face → (test : ℕ → Bool) (i : ℕ) → first_passing test (points_of face) ≡ Some i
    → (is_listed face i ≡ true) × (test i ≡ true) × ((p : ℕ) → is_listed face p ≡ true → p < i → test p ≡ false)
listed_least face known test i is = (
  in_listed face.points i (passing_in test (points_of face) i is),
  passing_some test (points_of face) i is,
  λ p there lt. passing_least test 1 (points_of face) i (points_rise face known) is p (listed_in face.points p there) lt,
)

pub place_least : (face : InterfaceView) → IsInterface face → (test : ℕ → Bool) (i : ℕ) → first_passing test (0 ∷ points_of face) ≡ Some i
    → (test i ≡ true) × ((p : ℕ) → is_in (0 ∷ points_of face) p ≡ true → p < i → test p ≡ false)
place_least face known test i is = (
  passing_some test (0 ∷ points_of face) i is,
  λ p there lt. passing_least test 0 (0 ∷ points_of face) i (all_rise face known) is p there lt,
)
