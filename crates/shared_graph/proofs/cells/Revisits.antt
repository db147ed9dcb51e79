-- The least sums by later neighbours are the least weights of all walks.
use Rattle.std.proofs.Common.{◌≡◌, ◌≢◌, ℕ, List, [], ◌∷◌, Bool, true, false, ◌||◌, ◌&&◌, not, Option, Some, None, ap, sym, ◌∙◌, refl, arith, inl, inr, filter}
use Rattle.std.proofs.Common.{subst}
use Rattle.std.specs.Prelude.{ℤ, ◌≤ℤ◌, ◌<ℤ◌, ◌==◌, int_lt, if◌then◌else◌}
use Rattle.std.proofs.lemmas.Bool.{and_parts, not-true, or_cases}
use Rattle.std.proofs.Math.Bool.{or-true}
use Rattle.std.proofs.lemmas.Bool.Decides.{nat_tests}
use Rattle.std.proofs.lemmas.Int.{ints}
use Rattle.stn_model.specs.ArcWalks.{IsInnerLeast}
use Rattle.stn_walk.specs.Eliminations.{is_in, before_both, lesser}
use Rattle.stn_walk.specs.Joins.{joined_of}
use Rattle.stn_walk.proofs.Visits.{least_unique}
use Rattle.stn_walk.proofs.Joins.{joined-from_walk, joined-symmetric}
use Rattle.stn_walk.proofs.Exits.{every}
use Rattle.stn_walk.proofs.Finals.{IsLeastOf, IsUpper, finals_from, finals_to}
use Rattle.shared_graph.specs.Interfaces.{InterfaceView, IsInterface, points_of}
use Rattle.shared_graph.specs.States.{State, meeting_of}
use Rattle.shared_graph.specs.Weights.{forward, is_joined, is_later, final_weight, later_neighbours, least_over, sum_from, sum_to}
use Rattle.shared_graph.specs.Together.{IsWhole}
use Rattle.shared_graph.proofs.states.Keeps.{IsSound, cells_hold, whole_light, whole_least, later_place, in_places}

-- what a filter has
pub filter_in : (test : ℕ → Bool) (xs : List ℕ) (p : ℕ) → is_in xs p ≡ true → test p ≡ true → is_in (filter test xs) p ≡ true
filter_in test [] p h t = h
filter_in test (x ∷ xs) p h t =
    elim (test x) as (λ b. test x ≡ b → is_in (if b then x ∷ filter test xs else filter test xs) p ≡ true) [
      | true ↦ λ u. elim (or_cases (is_in xs p) (p == x) h) [
        | inl later ↦ ap (λ b. b || (p == x)) (filter_in test xs p later t)
        | inr here ↦ ap (λ b. is_in (filter test xs) p || b) here ∙ or-true (is_in (filter test xs) p)
      ]
      | false ↦ λ u. elim (or_cases (is_in xs p) (p == x) h) [
        | inl later ↦ filter_in test xs p later t
        | inr here ↦ absurd (let e : p ≡ x = grind (arith, nat_tests) in let f : test x ≡ true = ap test (sym e) ∙ t in cc)
      ]
    ] refl

pub in_filter : (test : ℕ → Bool) (xs : List ℕ) (p : ℕ) → is_in (filter test xs) p ≡ true → test p ≡ true
in_filter test [] p h = absurd (cc)
in_filter test (x ∷ xs) p h =
    elim (test x) as (λ b. test x ≡ b → is_in (if b then x ∷ filter test xs else filter test xs) p ≡ true → test p ≡ true) [
      | true ↦ λ u g. elim (or_cases (is_in (filter test xs) p) (p == x) g) [
        | inl later ↦ in_filter test xs p later
        | inr here ↦ (let e : p ≡ x = grind (arith, nat_tests) in ap test e ∙ u)
      ]
      | false ↦ λ u g. in_filter test xs p g
    ] refl h

-- the least over a list is the least of it
in_more : (x : ℕ) (xs : List ℕ) (m : ℕ) → is_in xs m ≡ true → is_in (x ∷ xs) m ≡ true
in_more x xs m h = ap (λ b. b || (m == x)) h

in_first : (x : ℕ) (xs : List ℕ) → is_in (x ∷ xs) x ≡ true
in_first x xs = (let same : (x == x) ≡ true = grind (arith, nat_tests) in ap (λ b. is_in xs x || b) same ∙ or-true (is_in xs x))

upper_all : (number : ℕ → Option ℤ) (x : ℕ) (xs : List ℕ) (b : ℤ) → IsUpper b (number x) → ((m : ℕ) → is_in xs m ≡ true → IsUpper b (number m)) → (m : ℕ)
    → is_in (x ∷ xs) m ≡ true → IsUpper b (number m)
upper_all number x xs b first rest m h = elim (or_cases (is_in xs m) (m == x) h) [
  | inl later ↦ rest m later
  | inr here ↦ (let e : x ≡ m = grind (arith, nat_tests) in subst (λ q. IsUpper b (number q)) e first)
]

upper_less : (a b : ℤ) (o : Option ℤ) → a ≤ℤ b → IsUpper b o → IsUpper a o
upper_less a b None le h = tt
upper_less a b (Some c) le h = omega (arith, ints)

combine : (number : ℕ → Option ℤ) (x : ℕ) (xs : List ℕ) (u v : Option ℤ) → number x ≡ u → IsLeastOf (is_in xs) number v
    → IsLeastOf (is_in (x ∷ xs)) number (lesser u v)
combine number x xs None None first rest = λ m h. elim (or_cases (is_in xs m) (m == x) h) [
  | inl later ↦ rest m later
  | inr here ↦ (let e : m ≡ x = grind (arith, nat_tests) in ap number e ∙ first)
]
combine number x xs None (Some b) first rest = (
  (rest.0.0, in_more x xs rest.0.0 rest.0.1, rest.0.2),
  upper_all number x xs b (subst (IsUpper b) (sym first) tt) rest.1,
)
combine number x xs (Some a) None first rest = (
  (x, in_first x xs, first),
  upper_all number x xs a (subst (IsUpper a) (sym first) (omega (arith, ints))) (λ m h. subst (IsUpper a) (sym (rest m h)) tt),
)
combine number x xs (Some a) (Some b) first rest =
    elim (int_lt b a) as (λ t. int_lt b a ≡ t → IsLeastOf (is_in (x ∷ xs)) number (if t then Some b else Some a)) [
      | true ↦ λ t. let lt : b <ℤ a = grind (arith, ints) in (
        (rest.0.0, in_more x xs rest.0.0 rest.0.1, rest.0.2),
        upper_all number x xs b (subst (IsUpper b) (sym first) (omega (arith, ints))) rest.1,
      )
      | false ↦ λ t. let le : a ≤ℤ b = grind (arith, ints) in (
        (x, in_first x xs, first),
        upper_all number x xs a (subst (IsUpper a) (sym first) (omega (arith, ints))) (λ m h. upper_less a b (number m) le (rest.1 m h)),
      )
    ] refl

pub least_over_is : (number : ℕ → Option ℤ) (xs : List ℕ) → IsLeastOf (is_in xs) number (least_over number xs)
least_over_is number [] = λ m h. absurd (cc)
least_over_is number (x ∷ xs) = combine number x xs (number x) (least_over number xs) refl (least_over_is number xs)

-- the points before k are those before k and a point that is not among them
pub before_alone : (es : List ℕ) (k m : ℕ) → m ≢ k → is_in (before_both es k k) m ≡ false → before_both es k m ≡ before_both es k k
before_alone [] k m apart out = refl
before_alone (x ∷ es) k m apart out =
    elim (is_in (x ∷ es) k) as (λ b. is_in (x ∷ es) k ≡ b → is_in (if b || b then before_both es k k else x ∷ es) m ≡ false
    → (if b || is_in (x ∷ es) m then before_both es k m else x ∷ es) ≡ (if b || b then before_both es k k else x ∷ es)) [
      | true ↦ λ t g. before_alone es k m apart g
      | false ↦ λ t g. ap (λ b. if b then before_both es k m else x ∷ es) g
    ] refl out

pub before_alone_back : (es : List ℕ) (k m : ℕ) → m ≢ k → is_in (before_both es k k) m ≡ false → before_both es m k ≡ before_both es k k
before_alone_back [] k m apart out = refl
before_alone_back (x ∷ es) k m apart out =
    elim (is_in (x ∷ es) k) as (λ b. is_in (x ∷ es) k ≡ b → is_in (if b || b then before_both es k k else x ∷ es) m ≡ false
    → (if is_in (x ∷ es) m || b then before_both es m k else x ∷ es) ≡ (if b || b then before_both es k k else x ∷ es)) [
      | true ↦ λ t g. ap (λ b. if b then before_both es m k else x ∷ es) (or-true (is_in (x ∷ es) m)) ∙ before_alone_back es k m apart g
      | false ↦ λ t g. ap (λ b. if b || false then before_both es m k else x ∷ es) g
    ] refl out

module _ (face : InterfaceView) (known : IsInterface face) (s : State) (sound : IsSound face s) (k : ℕ) where
  abbrev inner : ℕ → Bool
  inner = is_in (before_both s.order k k)

  -- forward cells of k are least weights through what comes before k
  from_k : (m : ℕ) → is_in (before_both s.order k k) m ≡ false → m ≢ k
      → IsInnerLeast (is_in (before_both s.order k k)) (meeting_of face s) k m (forward face s k m)
  from_k m out apart = subst (λ es. IsInnerLeast (is_in es) (meeting_of face s) k m (forward face s k m)) (before_alone s.order k m apart out)
      (cells_hold face known s sound k m)

  to_k : (m : ℕ) → is_in (before_both s.order k k) m ≡ false → m ≢ k
      → IsInnerLeast (is_in (before_both s.order k k)) (meeting_of face s) m k (forward face s m k)
  to_k m out apart = subst (λ es. IsInnerLeast (is_in es) (meeting_of face s) m k (forward face s m k)) (before_alone_back s.order k m apart out)
      (cells_hold face known s sound m k)

  -- a point outside that is joined is a later neighbour
  in_later : (m : ℕ) → is_in (before_both s.order k k) m ≡ false → m ≢ k → joined_of (meeting_of face s) (before_both s.order k k) k m ≡ true
      → is_in (later_neighbours face s k) m ≡ true
  in_later m out apart joined =
      let differ : (k == m) ≡ false = (let back : k ≢ m = λ e. apart (sym e) in grind (arith, nat_tests)) in
      let same : joined_of (meeting_of face s) (before_both s.order k m) k m ≡ true =
      ap (λ es. joined_of (meeting_of face s) es k m) (before_alone s.order k m apart out) ∙ joined in
      let later : is_later face s k m ≡ true = (λ t. (not (differ t) && same t) && not (out t)) in
      filter_in (is_later face s k) (0 ∷ points_of face) m (in_places face known s sound m (later_place face known s sound k m later)) later

  no_cell : (o : Option ℤ) (i j m : ℕ) → is_in (before_both s.order k k) m ≡ false → m ≢ k → is_in (later_neighbours face s k) m ≡ false
      → IsInnerLeast (is_in (before_both s.order k k)) (meeting_of face s) i j o
      → (joined_of (meeting_of face s) (before_both s.order k k) i j ≡ true → joined_of (meeting_of face s) (before_both s.order k k) k m ≡ true) → o ≡ None
  no_cell None i j m out apart none least turn = refl
  no_cell (Some b) i j m out apart none least turn =
      absurd (let joined = turn (joined-from_walk (meeting_of face s) (before_both s.order k k) i j least.0.0 least.0.1) in
      let there = in_later m out apart joined in cc)

  pub later_outside : (m : ℕ) → is_in (later_neighbours face s k) m ≡ true → (is_in (before_both s.order k k) m ≡ false) × (m ≢ k)
  later_outside m h =
      let later = in_filter (is_later face s k) (0 ∷ points_of face) m h in
      let parts = and_parts (is_joined face s k m) (not (is_in (before_both s.order k k) m)) later in
      let differ = (and_parts (not (k == m)) (joined_of (meeting_of face s) (before_both s.order k m) k m) parts.0).0 in
      (not-true (is_in (before_both s.order k k) m) parts.1, (let apart : k ≢ m = grind (arith, nat_tests) in λ e. apart (sym e)))

  pub sums_from : IsWhole face s → (j : ℕ) → is_in (before_both s.order k k) j ≡ false → k ≢ j
      → final_weight face s k j ≡ least_over (sum_from face s (final_weight face s) k j) (later_neighbours face s k)
  sums_from whole j out apart =
      least_unique every (meeting_of face s) k j (final_weight face s k j) (least_over (sum_from face s (final_weight face s) k j) (later_neighbours face s k))
      (whole_least face known s sound whole k j)
      (finals_from (is_in (before_both s.order k k)) (meeting_of face s) k j (is_in (later_neighbours face s k)) (λ m. forward face s k m)
      (λ m. final_weight face s m j)
      (least_over (sum_from face s (final_weight face s) k j) (later_neighbours face s k))
      (whole_light face known s sound whole) out apart from_k
      (λ m away other none. no_cell (forward face s k m) k m m away other none (from_k m away other) (λ h. h))
      later_outside
      (λ m among ne. whole_least face known s sound whole m j)
      (least_over_is (sum_from face s (final_weight face s) k j) (later_neighbours face s k)))

  pub sums_to : IsWhole face s → (j : ℕ) → is_in (before_both s.order k k) j ≡ false → k ≢ j
      → final_weight face s j k ≡ least_over (sum_to face s (final_weight face s) k j) (later_neighbours face s k)
  sums_to whole j out apart =
      least_unique every (meeting_of face s) j k (final_weight face s j k) (least_over (sum_to face s (final_weight face s) k j) (later_neighbours face s k))
      (whole_least face known s sound whole j k)
      (finals_to (is_in (before_both s.order k k)) (meeting_of face s) k j (is_in (later_neighbours face s k)) (λ m. forward face s m k)
      (λ m. final_weight face s j m)
      (least_over (sum_to face s (final_weight face s) k j) (later_neighbours face s k))
      (whole_light face known s sound whole) out (λ e. apart (sym e)) to_k
      (λ m away other none. no_cell (forward face s m k) m k m away other none (to_k m away other)
      (λ h. joined-symmetric (meeting_of face s) (before_both s.order k k) k m ∙ h))
      later_outside
      (λ m among ne. whole_least face known s sound whole j m)
      (least_over_is (sum_to face s (final_weight face s) k j) (later_neighbours face s k)))
