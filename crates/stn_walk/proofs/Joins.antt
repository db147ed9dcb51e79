-- Which points eliminations join.
--   edge-from_test, test-from_edge             edges pass their test
--   edge-symmetric, joined-symmetric           the direction does not matter
--   path-from_joined, joined-from_path         joined points are those with a path through eliminated points
--   joined-from_walk                           so are the ends of a walk through eliminated points
--   joined-wider                               fewer eliminated points join no more
--   is_in-reverse                              a list turned round has the same points
--   order-from_before_both, before_both-from_order  the eliminated points before both are those that the order has before both
--   joined-from_order, order-from_joined       the points that an order joins are those that eliminations in this order join
use Rattle.std.proofs.Common.{suc, ◌≡◌, ◌≢◌, ℕ, ◌+◌, ◌≤◌, List, [], ◌∷◌, ◌++◌, Bool, true, false, ◌&&◌, ◌||◌, not, cond, eqb, ap, sym, ◌∙◌, refl}
use Rattle.std.proofs.Common.{length, arith, subst, inl, inr, ◌⊎◌}
use Rattle.std.specs.Prelude.{◌==◌, nat_eq, nat_lt, reverse, if◌then◌else◌}
use Rattle.std.specs.List.{AllByRecursion, position_or_len}
use Rattle.std.proofs.Math.Bool.{or-true, or_comm, and_comm}
use Rattle.std.proofs.lemmas.Bool.{and_parts, ltb-true, lt-ltb}
use Rattle.std.proofs.lemmas.Bool.Decides.{nat_tests}
use Rattle.std.proofs.lemmas.List.{reverse-append, reverse-reverse}
use Rattle.std.proofs.lemmas.List.Folds.{Any-from_list_any, list_any-from_Any, position_or_len_push}
use Rattle.std.proofs.lemmas.List.Sums.{prefix_len-le-length}
use Rattle.stn_model.specs.declared.ids.Constraint.{Constraint}
use Rattle.stn_model.specs.Joined.{HasEdge, IsPath, ComesBefore, IsJoined}
use Rattle.stn_model.specs.ArcWalks.{IsInner}
use Rattle.stn_walk.specs.Eliminations.{is_in, before_both}
use Rattle.stn_walk.specs.Joins.{has_edge, joined_of, HasPath}
use Rattle.stn_walk.proofs.Members.{is_in-first, is_in-push}

-- the two ends of one arc
ends-from_test : (a : Constraint) (i j : ℕ) → (((a.from.0 == i) && (a.to.0 == j)) || ((a.from.0 == j) && (a.to.0 == i))) ≡ true
    → ((a.from.0 ≡ i) × (a.to.0 ≡ j)) ⊎ ((a.from.0 ≡ j) × (a.to.0 ≡ i))
ends-from_test a i j h =
    elim ((a.from.0 == i) && (a.to.0 == j)) as
    (λ b. ((a.from.0 == i) && (a.to.0 == j)) ≡ b → ((a.from.0 ≡ i) × (a.to.0 ≡ j)) ⊎ ((a.from.0 ≡ j) × (a.to.0 ≡ i))) [
      | true ↦ λ t. inl (grind (arith, nat_tests), grind (arith, nat_tests))
      | false ↦ λ t. let other : ((a.from.0 == j) && (a.to.0 == i)) ≡ true = (rw t at h) in inr (grind (arith, nat_tests), grind (arith, nat_tests))
    ] refl

test-from_ends : (a : Constraint) (i j : ℕ) → ((a.from.0 ≡ i) × (a.to.0 ≡ j)) ⊎ ((a.from.0 ≡ j) × (a.to.0 ≡ i))
    → (((a.from.0 == i) && (a.to.0 == j)) || ((a.from.0 == j) && (a.to.0 == i))) ≡ true
test-from_ends a i j (inl h) = (let from = h.0 in let to = h.1 in grind (arith, nat_tests))
test-from_ends a i j (inr h) = (let from = h.0 in let to = h.1 in grind (arith, nat_tests))

-- an edge is what passes the test
pub edge-from_test : (arcs : List Constraint) (i j : ℕ) → has_edge arcs i j ≡ true → HasEdge arcs i j
edge-from_test arcs i j h =
    let some = Any-from_list_any (λ (a : Constraint). ((a.from.0 == i) && (a.to.0 == j)) || ((a.from.0 == j) && (a.to.0 == i))) arcs h in
    (some.1, (some.0, some.2, some.3), ends-from_test some.1 i j some.4)

pub test-from_edge : (arcs : List Constraint) (i j : ℕ) → HasEdge arcs i j → has_edge arcs i j ≡ true
test-from_edge arcs i j h =
    list_any-from_Any (λ (a : Constraint). ((a.from.0 == i) && (a.to.0 == j)) || ((a.from.0 == j) && (a.to.0 == i))) arcs
    (h.1.0, h.0, h.1.1, h.1.2, test-from_ends h.0 i j h.2)

-- two paths that meet in k are one path through k
path-through : (arcs : List Constraint) (i k j : ℕ) (ps qs : List ℕ) → IsPath arcs i k ps → IsPath arcs k j qs → IsPath arcs i j (ps ++ k ∷ qs)
path-through arcs i k j [] qs h g = (h, g)
path-through arcs i k j (p ∷ ps) qs h g = (h.0, path-through arcs p k j ps qs h.1 g)

all-through : (P : ℕ → Type 0) (k : ℕ) (ps qs : List ℕ) → AllByRecursion P ps → P k → AllByRecursion P qs → AllByRecursion P (ps ++ k ∷ qs)
all-through P k [] qs all here rest = (here, rest)
all-through P k (p ∷ ps) qs all here rest = (all.0, all-through P k ps qs all.1 here rest)

-- what holds of each item implies what follows of it
all-wider : (P Q : ℕ → Type 0) → ((p : ℕ) → P p → Q p) → (ps : List ℕ) → AllByRecursion P ps → AllByRecursion Q ps
all-wider P Q up [] all = tt
all-wider P Q up (p ∷ ps) all = (up p all.0, all-wider P Q up ps all.1)

-- a path through points of a set is one through points of each set that has these
path-wider : (passes more : ℕ → Bool) (arcs : List Constraint) (i j : ℕ) → ((p : ℕ) → passes p ≡ true → more p ≡ true) → HasPath passes arcs i j
    → HasPath more arcs i j
path-wider passes more arcs i j up (inner, path, all) = (inner, path, all-wider (λ p. passes p ≡ true) (λ p. more p ≡ true) up inner all)

in_more : (k : ℕ) (es : List ℕ) (p : ℕ) → is_in es p ≡ true → is_in (k ∷ es) p ≡ true
in_more k es p h = rw h refl

or_left : (a b : Bool) → (a || b) ≡ true → b ≡ false → a ≡ true
or_left true b h f = refl
or_left false b h f = absurd (cc)

-- joined points have a path through eliminated points
pub path-from_joined : (arcs : List Constraint) (es : List ℕ) (i j : ℕ) → joined_of arcs es i j ≡ true → HasPath (is_in es) arcs i j
path-from_joined arcs [] i j h = ([], edge-from_test arcs i j h, tt)
path-from_joined arcs (k ∷ es) i j h =
    elim (joined_of arcs es i j) as (λ b. joined_of arcs es i j ≡ b → HasPath (is_in (k ∷ es)) arcs i j) [
      | true ↦ λ t. path-wider (is_in es) (is_in (k ∷ es)) arcs i j (in_more k es) (path-from_joined arcs es i j t)
      | false ↦ λ t.
          let both = and_parts (joined_of arcs es i k) (joined_of arcs es k j) (rw t at h) in
          let front = path-wider (is_in es) (is_in (k ∷ es)) arcs i k (in_more k es) (path-from_joined arcs es i k both.0) in
          let rest = path-wider (is_in es) (is_in (k ∷ es)) arcs k j (in_more k es) (path-from_joined arcs es k j both.1) in (
            front.0 ++ k ∷ rest.0,
            path-through arcs i k j front.0 rest.0 front.1 rest.1,
            all-through (λ p. is_in (k ∷ es) p ≡ true) k front.0 rest.0 front.2 (is_in-first k es) rest.2,
          )
    ] refl

-- a path through a set and k either stays in the set, or has a part in it before the first visit to k, and one after the last
path-cut : (arcs : List Constraint) (es : List ℕ) (k i j : ℕ) (ps : List ℕ) → IsPath arcs i j ps → AllByRecursion (λ p. is_in (k ∷ es) p ≡ true) ps
    → HasPath (is_in es) arcs i j ⊎ (HasPath (is_in es) arcs i k × HasPath (is_in es) arcs k j)
path-cut arcs es k i j [] h all = inl ([], h, tt)
path-cut arcs es k i j (p ∷ ps) h all =
    elim (p == k) as (λ b. (p == k) ≡ b → HasPath (is_in es) arcs i j ⊎ (HasPath (is_in es) arcs i k × HasPath (is_in es) arcs k j)) [
      | true ↦ λ t.
          let e : p ≡ k = grind (arith, nat_tests) in
          let to : HasEdge arcs i k = subst (HasEdge arcs i) e h.0 in
          let from : IsPath arcs k j ps = subst (λ x. IsPath arcs x j ps) e h.1 in
          elim (path-cut arcs es k k j ps from all.1) [ inl g ↦ inr (([], to, tt), g) | inr c ↦ inr (([], to, tt), c.1) ]
      | false ↦ λ t.
          let here : is_in es p ≡ true = or_left (is_in es p) (p == k) all.0 t in
          elim (path-cut arcs es k p j ps h.1 all.1) [
            | inl g ↦ inl (p ∷ g.0, (h.0, g.1), (here, g.2))
            | inr c ↦ inr ((p ∷ c.0.0, (h.0, c.0.1), (here, c.0.2)), c.1)
          ]
    ] refl

-- a path through eliminated points joins its ends
pub joined-from_path : (arcs : List Constraint) (es : List ℕ) (i j : ℕ) → HasPath (is_in es) arcs i j → joined_of arcs es i j ≡ true
joined-from_path arcs [] i j ([], path, all) = test-from_edge arcs i j path
joined-from_path arcs [] i j (p ∷ ps, path, all) = absurd (let f : false ≡ true = all.0 in cc)
joined-from_path arcs (k ∷ es) i j (ps, path, all) =
    elim (path-cut arcs es k i j ps path all) [
      | inl g ↦ rw (joined-from_path arcs es i j g) refl
      | inr c ↦ rw (joined-from_path arcs es i k c.0, joined-from_path arcs es k j c.1) (or-true (joined_of arcs es i j))
    ]

-- the direction does not matter
pub edge-symmetric : (arcs : List Constraint) (i j : ℕ) → has_edge arcs i j ≡ has_edge arcs j i
edge-symmetric [] i j = refl
edge-symmetric (a ∷ arcs) i j =
    let here = or_comm ((a.from.0 == i) && (a.to.0 == j)) ((a.from.0 == j) && (a.to.0 == i)) in
    (λ t. here t || edge-symmetric arcs i j t)

pub joined-symmetric : (arcs : List Constraint) (es : List ℕ) (i j : ℕ) → joined_of arcs es i j ≡ joined_of arcs es j i
joined-symmetric arcs [] i j = edge-symmetric arcs i j
joined-symmetric arcs (k ∷ es) i j =
    (λ t. joined-symmetric arcs es i j t || (joined-symmetric arcs es i k t && joined-symmetric arcs es k j t))
    ∙ ap (λ b. joined_of arcs es j i || b) (and_comm (joined_of arcs es k i) (joined_of arcs es j k))

-- a walk is a path without direction
path-from_walk : (passes : ℕ → Bool) (arcs : List Constraint) (i j : ℕ) (w : List Constraint) → IsInner passes arcs i j w → HasPath passes arcs i j
path-from_walk passes arcs i j [] h = absurd h
path-from_walk passes arcs i j (a ∷ []) h = ([], (a, h.0, inl (h.1, h.2)), tt)
path-from_walk passes arcs i j (a ∷ b ∷ w) h =
    let rest = path-from_walk passes arcs a.to.0 j (b ∷ w) (h.2.1, h.2.2, h.2.3) in
    (a.to.0 ∷ rest.0, ((a, h.0, inl (h.1, refl)), rest.1), (h.2.0, rest.2))

-- the ends of a walk through eliminated points are joined
pub joined-from_walk : (arcs : List Constraint) (es : List ℕ) (i j : ℕ) (w : List Constraint) → IsInner (is_in es) arcs i j w → joined_of arcs es i j ≡ true
joined-from_walk arcs es i j w h = joined-from_path arcs es i j (path-from_walk (is_in es) arcs i j w h)

-- fewer eliminated points join no more
pub joined-wider : (arcs : List Constraint) (es fs : List ℕ) (i j : ℕ) → ((p : ℕ) → is_in es p ≡ true → is_in fs p ≡ true)
    → joined_of arcs es i j ≡ true → joined_of arcs fs i j ≡ true
joined-wider arcs es fs i j up h = joined-from_path arcs fs i j (path-wider (is_in es) (is_in fs) arcs i j up (path-from_joined arcs es i j h))

-- a list turned round
reverse-push : (k : ℕ) (xs : List ℕ) → reverse (k ∷ xs) ≡ reverse xs ++ k ∷ []
reverse-push k xs = reverse-append (k ∷ []) xs

pub is_in-reverse : (xs : List ℕ) (p : ℕ) → is_in (reverse xs) p ≡ is_in xs p
is_in-reverse [] p = refl
is_in-reverse (x ∷ xs) p = ap (λ (ys : List ℕ). is_in ys p) (reverse-push x xs) ∙ is_in-push (reverse xs) x p ∙ ap (λ b. b || (p == x)) (is_in-reverse xs p)

-- the place of a point in an order, or the length where the order lacks it
abbrev place_of : List ℕ → ℕ → ℕ
place_of order p = position_or_len (nat_eq p) order

-- the place once a point is put at the end
abbrev place_next : ℕ → ℕ → Bool → ℕ
place_next place n last = cond (eqb place n) (n + cond last 0 1) place

place-push : (xs : List ℕ) (k p n : ℕ) → length xs ≡ n → place_of (xs ++ k ∷ []) p ≡ place_next (place_of xs p) n (p == k)
place-push xs k p n len = position_or_len_push (nat_eq p) xs k ∙ ap (λ m. place_next (place_of xs p) m (p == k)) len

place-le : (xs : List ℕ) (p n : ℕ) → length xs ≡ n → place_of xs p ≤ n
place-le xs p n len = (let le = prefix_len-le-length (λ x. not (nat_eq p x)) xs in omega arith)

-- the points of an order are those with a place below its length
place-in : (xs : List ℕ) (p : ℕ) → is_in xs p ≡ nat_lt (place_of xs p) (length xs)
place-in [] p = grind (arith, nat_tests)
place-in (x ∷ xs) p = ap (λ b. b || (p == x)) (place-in xs p) ∙ more (p == x) (place_of xs p) (length xs) where
  more : (b : Bool) (m n : ℕ) → (nat_lt m n || b) ≡ nat_lt (cond (not b) (1 + m) 0) (suc n)
  more true m n = or-true (nat_lt m n) ∙ grind (arith, nat_tests)
  more false m n = grind (arith, nat_tests)

-- the same with one point more at the end, in numbers: a, b and c are the places of p, i and j among the first n
before-next : (a b c n : ℕ) (pk ik jk : Bool) → a ≤ n → b ≤ n → c ≤ n
    → (if (nat_lt b n || ik) || (nat_lt c n || jk) then nat_lt a b && nat_lt a c else (nat_lt a n || pk))
    ≡ (nat_lt (place_next a n pk) (place_next b n ik) && nat_lt (place_next a n pk) (place_next c n jk))
before-next a b c n true true true la lb lc = grind (arith, nat_tests)
before-next a b c n true true false la lb lc = grind (arith, nat_tests)
before-next a b c n true false true la lb lc = grind (arith, nat_tests)
before-next a b c n true false false la lb lc = grind (arith, nat_tests)
before-next a b c n false true true la lb lc = grind (arith, nat_tests)
before-next a b c n false true false la lb lc = grind (arith, nat_tests)
before-next a b c n false false true la lb lc = grind (arith, nat_tests)
before-next a b c n false false false la lb lc = grind (arith, nat_tests)

-- the eliminated points that come before both, by their places in the order of elimination
before_both-places : (es : List ℕ) (i j p : ℕ) → is_in (before_both es i j) p
    ≡ (nat_lt (place_of (reverse es) p) (place_of (reverse es) i) && nat_lt (place_of (reverse es) p) (place_of (reverse es) j))
before_both-places [] i j p = grind (arith, nat_tests)
before_both-places (k ∷ es) i j p =
    let xs = reverse es in
    let n = length xs in
    let a = place_of xs p in
    let b = place_of xs i in
    let c = place_of xs j in
    let test : Bool = (is_in es i || (i == k)) || (is_in es j || (j == k)) in
    let in_xs : (q : ℕ) → is_in es q ≡ nat_lt (place_of xs q) n = λ q. sym (is_in-reverse es q) ∙ place-in xs q in
    let chosen : (t : Bool) → is_in (if t then before_both es i j else k ∷ es) p ≡ (if t then nat_lt a b && nat_lt a c else (nat_lt a n || (p == k))) =
    λ t. elim t as (λ t. is_in (if t then before_both es i j else k ∷ es) p ≡ (if t then nat_lt a b && nat_lt a c else (nat_lt a n || (p == k)))) [
      | true ↦ before_both-places es i j p
      | false ↦ ap (λ b. b || (p == k)) (in_xs p)
    ] in
    chosen test
    ∙ (λ t. if (in_xs i t || (i == k)) || (in_xs j t || (j == k)) then nat_lt a b && nat_lt a c else (nat_lt a n || (p == k)))
    ∙ before-next a b c n (p == k) (i == k) (j == k) (place-le xs p n refl) (place-le xs i n refl) (place-le xs j n refl)
    ∙ sym
    (ap (λ (ys : List ℕ). nat_lt (place_of ys p) (place_of ys i) && nat_lt (place_of ys p) (place_of ys j)) (reverse-push k es)
    ∙ (λ t. nat_lt (place-push xs k p n refl t) (place-push xs k i n refl t) && nat_lt (place-push xs k p n refl t) (place-push xs k j n refl t)))

-- eliminated points that come before both are the points that the order has before both
before_both-order : (order : List ℕ) (i j p : ℕ)
    → is_in (before_both (reverse order) i j) p ≡ (nat_lt (place_of order p) (place_of order i) && nat_lt (place_of order p) (place_of order j))
before_both-order order i j p =
    before_both-places (reverse order) i j p
    ∙ ap (λ (xs : List ℕ). nat_lt (place_of xs p) (place_of xs i) && nat_lt (place_of xs p) (place_of xs j)) (reverse-reverse order)

pub order-from_before_both : (order : List ℕ) (i j p : ℕ) → is_in (before_both (reverse order) i j) p ≡ true → ComesBefore order p i × ComesBefore order p j
order-from_before_both order i j p h =
    let both =
    and_parts (nat_lt (place_of order p) (place_of order i)) (nat_lt (place_of order p) (place_of order j)) (sym (before_both-order order i j p) ∙ h) in
    (ltb-true (place_of order p) (place_of order i) both.0, ltb-true (place_of order p) (place_of order j) both.1)

pub before_both-from_order : (order : List ℕ) (i j p : ℕ) → ComesBefore order p i × ComesBefore order p j → is_in (before_both (reverse order) i j) p ≡ true
before_both-from_order order i j p h =
    before_both-order order i j p
    ∙ (λ t. lt-ltb (place_of order p) (place_of order i) h.0 t && lt-ltb (place_of order p) (place_of order j) h.1 t)

-- the points that an order joins are those joined once the points before both are eliminated
pub joined-from_order : (arcs : List Constraint) (order : List ℕ) (i j : ℕ) → IsJoined arcs order i j
    → (i ≢ j) × (joined_of arcs (before_both (reverse order) i j) i j ≡ true)
joined-from_order arcs order i j h = (
  h.different,
  joined-from_path arcs (before_both (reverse order) i j) i j (
    h.inner,
    h.path,
    all-wider (λ p. ComesBefore order p i × ComesBefore order p j) (λ p. is_in (before_both (reverse order) i j) p ≡ true)
        (before_both-from_order order i j) h.inner h.before,
  ),
)

pub order-from_joined : (arcs : List Constraint) (order : List ℕ) (i j : ℕ) → i ≢ j → joined_of arcs (before_both (reverse order) i j) i j ≡ true
    → IsJoined arcs order i j
order-from_joined arcs order i j apart h =
    let path = path-from_joined arcs (before_both (reverse order) i j) i j h in
    record {
      different = apart;
      inner = path.0;
      path = path.1;
      before =
          all-wider (λ p. is_in (before_both (reverse order) i j) p ≡ true) (λ p. ComesBefore order p i × ComesBefore order p j)
          (order-from_before_both order i j) path.0 path.2;
    }
