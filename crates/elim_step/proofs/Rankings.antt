-- A tree of matches has at its root the place that comes first, and stays one while a leaf changes.
use Rattle.std.proofs.Common.{zero, suc, ◌≡◌, ◌≢◌, ℕ, ◌+◌, ◌-◌, ◌*◌, ◌/◌, ◌<◌, ◌≤◌, List, true, false, Option, Some, None, ap, sym, ◌∙◌}
use Rattle.std.proofs.Common.{refl, length, set, arith, subst, inl, inr, get_or-set_same, get_or-set_other}
use Rattle.std.specs.Prelude.{◌==◌, IfSome, if◌then◌else◌}
use Rattle.std.proofs.Math.ListN.{get_or-eq_default}
use Rattle.std.proofs.lemmas.Bool.{cases_lt}
use Rattle.std.proofs.lemmas.Bool.Decides.{nat_tests}
use Rattle.elim_step.specs.declared.pick.Rank.{Rank}
use Rattle.elim_step.specs.Picks.{comes_before}
use Rattle.elim_step.specs.Rankings.{rank_for, first_rank, node_at, AreMatches, IsRanking, key_of, number_for, IsFirst}

-- the order of keys and numbers
before_self : (a m : ℕ) → comes_before a m a m ≡ false
before_self a m = grind (arith, nat_tests)

before_back : (a m b n : ℕ) → comes_before a m b n ≡ true → comes_before b n a m ≡ false
before_back a m b n h = grind (arith, nat_tests)

before_through : (a m b n c o : ℕ) → comes_before b n a m ≡ false → comes_before c o b n ≡ false → comes_before c o a m ≡ false
before_through a m b n c o first second = grind (arith, nat_tests)

-- one comes no later than another, where that is there
abbrev pub IsNoLater : Option Rank → Option Rank → Type 0
IsNoLater x None = Unit {0}
IsNoLater None (Some s) = ⊥
IsNoLater (Some r) (Some s) = comes_before s.key s.number r.key r.number ≡ false

no_later_self : (x : Option Rank) → IsNoLater x x
no_later_self None = tt
no_later_self (Some r) = before_self r.key r.number

no_later_through : (x y z : Option Rank) → IsNoLater x y → IsNoLater y z → IsNoLater x z
no_later_through x y None h g = tt
no_later_through x None (Some s) h g = absurd g
no_later_through None (Some r) (Some s) h g = absurd h
no_later_through (Some q) (Some r) (Some s) h g = before_through q.key q.number r.key r.number s.key s.number h g

first_left : (x y : Option Rank) → IsNoLater (first_rank x y) x
first_left None y = tt
first_left (Some r) None = before_self r.key r.number
first_left (Some r) (Some s) =
    elim (comes_before s.key s.number r.key r.number) as (λ b. comes_before s.key s.number r.key r.number ≡ b
    → IsNoLater (if b then Some s else Some r) (Some r)) [
      | true ↦ λ t. before_back s.key s.number r.key r.number t
      | false ↦ λ t. before_self r.key r.number
    ] refl

first_right : (x y : Option Rank) → IsNoLater (first_rank x y) y
first_right None None = tt
first_right None (Some s) = before_self s.key s.number
first_right (Some r) None = tt
first_right (Some r) (Some s) =
    elim (comes_before s.key s.number r.key r.number) as (λ b. comes_before s.key s.number r.key r.number ≡ b
    → IsNoLater (if b then Some s else Some r) (Some s)) [
      | true ↦ λ t. before_self s.key s.number
      | false ↦ λ t. t
    ] refl

-- the first of two is one of them
first_either : (P : Option Rank → Type 0) (x y : Option Rank) → P x → P y → P (first_rank x y)
first_either P None y h g = g
first_either P (Some r) None h g = h
first_either P (Some r) (Some s) h g =
    elim (comes_before s.key s.number r.key r.number) as (λ b. P (if b then Some s else Some r)) [ true ↦ g | false ↦ h ]

number_or : Option Rank → ℕ
number_or None = 0
number_or (Some r) = r.number

-- a place that stands at its leaf
leaf_number : (p : ℕ) (x : Option Rank) → x ≡ rank_for p (key_of x) → IfSome x (λ r. r.number ≡ p)
unfolding number_or
leaf_number p None e = tt
leaf_number p (Some r) e = ap number_or e

module _ (size : ℕ) (nodes : List (Option Rank)) (is : IsRanking size nodes) where
  -- no node comes before the root
  root_first : (fuel n : ℕ) → n ≤ fuel → 1 ≤ n → n < 2 * size → IsNoLater (node_at nodes 1) (node_at nodes n)
  root_first zero n low from within = absurd (omega (arith, low, from))
  root_first (suc fuel) n low from within =
      elim (cases_lt n 2) [
        | inl one ↦ (let e : 1 ≡ n = omega (arith, one, from) in subst (λ (m : ℕ). IsNoLater (node_at nodes 1) (node_at nodes m)) e (no_later_self (node_at nodes 1)))
        | inr more ↦
            let up = n / 2 in
            let above = root_first fuel up (omega (arith, low, more)) (omega (arith, more)) (omega (arith, within)) in
            let match : node_at nodes up ≡ first_rank (node_at nodes (2 * up)) (node_at nodes (2 * up + 1)) =
            is.matches up (omega (arith, more)) (omega (arith, within)) in
            no_later_through (node_at nodes 1) (node_at nodes up) (node_at nodes n) above
            (elim (cases_lt (2 * up) n) [
              | inl odd ↦
                  let e : 2 * up + 1 ≡ n = omega (arith, odd) in
                  subst (λ (m : ℕ). IsNoLater (node_at nodes up) (node_at nodes m)) e
                  (rw match (first_right (node_at nodes (2 * up)) (node_at nodes (2 * up + 1))))
              | inr even ↦
                  let e : 2 * up ≡ n = omega (arith, even) in
                  subst (λ (m : ℕ). IsNoLater (node_at nodes up) (node_at nodes m)) e
                  (rw match (first_left (node_at nodes (2 * up)) (node_at nodes (2 * up + 1))))
            ])
      ]

  -- what is at a node is what is at the leaf of its number
  abbrev AtLeaf : Option Rank → Type 0
  AtLeaf x = IfSome x (λ r. node_at nodes (size + r.number) ≡ Some r)

  at_leaf : (p : ℕ) (x : Option Rank) → node_at nodes (size + p) ≡ x → AtLeaf x
  at_leaf p None e = tt
  at_leaf p (Some r) e =
      let number : r.number ≡ p = subst (λ (x : Option Rank). IfSome x (λ r. r.number ≡ p)) e (leaf_number p (node_at nodes (size + p)) (is.leaves p)) in
      ap (λ (q : ℕ). node_at nodes (size + q)) number ∙ e

  from_leaf : (fuel n : ℕ) → 2 * size ≤ n + fuel → 1 ≤ n → AtLeaf (node_at nodes n)
  from_leaf zero n past from = subst AtLeaf (sym (get_or-eq_default nodes None (let e = is.len in omega (arith, e, past)))) none where
    none : AtLeaf None
    none = tt
  from_leaf (suc fuel) n past from =
      elim (cases_lt n size) [
        | inl inner ↦ subst AtLeaf (sym (is.matches n from inner))
            (first_either AtLeaf (node_at nodes (2 * n)) (node_at nodes (2 * n + 1)) (from_leaf fuel (2 * n) (omega (arith, past, from)) (omega (arith, from)))
            (from_leaf fuel (2 * n + 1) (omega (arith, past, from)) (omega (arith, from))))
        | inr leaf ↦
            let e : size + (n - size) ≡ n = omega (arith, leaf) in
            at_leaf (n - size) (node_at nodes n) (ap (node_at nodes) e)
      ]

  -- a leaf is not before the root
  leaf_later : (p : ℕ) → p < size → IsNoLater (node_at nodes 1) (node_at nodes (size + p))
  leaf_later p low = root_first (size + p) (size + p) (omega arith) (omega (arith, low)) (omega (arith, low))

  past_none : (p : ℕ) → size ≤ p → node_at nodes (size + p) ≡ None
  past_none p past = get_or-eq_default nodes None (let e = is.len in omega (arith, e, past))

  all_none : node_at nodes 1 ≡ None → (p : ℕ) → key_of (node_at nodes (size + p)) ≡ None
  all_none none p =
      elim (cases_lt p size) [
        | inl low ↦ left_none (node_at nodes (size + p)) (subst (λ (x : Option Rank). IsNoLater x (node_at nodes (size + p))) none (leaf_later p low))
        | inr past ↦ ap key_of (past_none p past)
      ] where
        left_none : (y : Option Rank) → IsNoLater None y → key_of y ≡ None
        left_none None le = refl
        left_none (Some s) le = absurd le

  later_is : (r : Rank) (p b : ℕ) (y : Option Rank) → IsNoLater (Some r) y → key_of y ≡ Some b → IfSome y (λ s. s.number ≡ p)
      → comes_before b p r.key r.number ≡ false
  later_is r p b None le key number = absurd (cc)
  later_is r p b (Some s) le key number =
      let same : s.key ≡ b = cc in
      subst (λ (k : ℕ). comes_before k p r.key r.number ≡ false) same (subst (λ (n : ℕ). comes_before s.key n r.key r.number ≡ false) number le)

  -- the root of a tree of matches is first
  pub root_is_first : (root : Option Rank) → root ≡ node_at nodes 1 → 0 < size → IsFirst (λ p. key_of (node_at nodes (size + p))) (number_for root)
  root_is_first None at some = all_none (sym at)
  root_is_first (Some r) at some =
      let leaf : node_at nodes (size + r.number) ≡ Some r = found (subst AtLeaf (sym at) (from_leaf (2 * size) 1 (omega arith) (omega arith))) in
      (r.key, ap key_of leaf, each) where
        found : AtLeaf (Some r) → node_at nodes (size + r.number) ≡ Some r
        found h = h

        each : (p b : ℕ) → key_of (node_at nodes (size + p)) ≡ Some b → comes_before b p r.key r.number ≡ false
        each p b key =
            elim (cases_lt p size) [
              | inl low ↦ later_is r p b (node_at nodes (size + p)) (subst (λ (x : Option Rank). IsNoLater x (node_at nodes (size + p))) (sym at) (leaf_later p low))
                  key (leaf_number p (node_at nodes (size + p)) (is.leaves p))
              | inr past ↦ absurd (let none : key_of (node_at nodes (size + p)) ≡ None = ap key_of (past_none p past) in
                  let e : None ≡ Some b = sym none ∙ key in cc)
            ]

  -- a tree without places
  pub none_is_first : size ≡ 0 → IsFirst (λ p. key_of (node_at nodes (size + p))) None
  none_is_first empty p = ap key_of (past_none p (omega (arith, empty)))

-- a tree without keys
pub empty_ranking : (size : ℕ) (nodes : List (Option Rank)) → length nodes ≡ 2 * size → ((n : ℕ) → node_at nodes n ≡ None) → IsRanking size nodes
empty_ranking size nodes len none = record {
  len = len;
  leaves = λ p. none (size + p) ∙ sym (ap (λ (x : Option Rank). rank_for p (key_of x)) (none (size + p)));
  matches = λ n from low. none n ∙ sym (λ t. first_rank (none (2 * n) t) (none (2 * n + 1) t));
}

-- the matches but for one
abbrev pub AreOtherMatches : ℕ → List (Option Rank) → ℕ → Type 0
AreOtherMatches size nodes but =
    (n : ℕ) → 1 ≤ n → n < size → n ≢ but → node_at nodes n ≡ first_rank (node_at nodes (2 * n)) (node_at nodes (2 * n + 1))

-- a node that is written
node_set : (nodes : List (Option Rank)) (at n : ℕ) (x : Option Rank) → at < length nodes → node_at (set nodes at x) n ≡ (if n == at then x else node_at nodes n)
node_set nodes at n x low =
    elim (n == at) as (λ b. (n == at) ≡ b → node_at (set nodes at x) n ≡ (if b then x else node_at nodes n)) [
      | true ↦ λ h. (let e : n ≡ at = grind (arith, nat_tests) in rw e (get_or-set_same nodes at x None low))
      | false ↦ λ h. (let e : n ≢ at = grind (arith, nat_tests) in get_or-set_other nodes at n x None e)
    ] refl

node_other : (nodes : List (Option Rank)) (at n : ℕ) (x : Option Rank) → n ≢ at → node_at (set nodes at x) n ≡ node_at nodes n
node_other nodes at n x apart = get_or-set_other nodes at n x None apart

-- after a leaf is written, the match above it may be another
pub leaf_set : (size : ℕ) (nodes : List (Option Rank)) (leaf : ℕ) (x : Option Rank) → length nodes ≡ 2 * size → size ≤ leaf → leaf < 2 * size
    → AreMatches size nodes → AreOtherMatches size (set nodes leaf x) (leaf / 2)
leaf_set size nodes leaf x len from low matches n one less apart =
    node_other nodes leaf n x (omega (arith, from, less))
    ∙ matches n one less
    ∙ sym (λ t. first_rank (node_other nodes leaf (2 * n) x (omega (arith, apart)) t) (node_other nodes leaf (2 * n + 1) x (omega (arith, apart)) t))

pub leaf_nodes : (size : ℕ) (nodes : List (Option Rank)) (leaf : ℕ) (x : Option Rank) → length nodes ≡ 2 * size → leaf < 2 * size → (n : ℕ) → size ≤ n
    → node_at (set nodes leaf x) n ≡ (if n == leaf then x else node_at nodes n)
leaf_nodes size nodes leaf x len low n from = node_set nodes leaf n x (omega (arith, len, low))

-- after a match is played, that above it may be another
pub match_set : (size : ℕ) (nodes : List (Option Rank)) (at : ℕ) (x : Option Rank) → length nodes ≡ 2 * size → 1 ≤ at → at < size
    → AreOtherMatches size nodes at → x ≡ first_rank (node_at nodes (2 * at)) (node_at nodes (2 * at + 1))
    → AreOtherMatches size (set nodes at x) (at / 2)
match_set size nodes at x len one low matches is n from less apart =
    let left = node_other nodes at (2 * n) x (omega (arith, apart, one)) in
    let right = node_other nodes at (2 * n + 1) x (omega (arith, apart)) in
    elim (n == at) as (λ b. (n == at) ≡ b → node_at (set nodes at x) n ≡ first_rank (node_at (set nodes at x) (2 * n)) (node_at (set nodes at x) (2 * n + 1))) [
      | true ↦ λ h.
          let e : n ≡ at = grind (arith, nat_tests) in
          let here : node_at (set nodes at x) n ≡ x = rw e (get_or-set_same nodes at x None (omega (arith, len, low))) in
          let played : x ≡ first_rank (node_at nodes (2 * n)) (node_at nodes (2 * n + 1)) = rw e is in
          here ∙ played ∙ sym (λ t. first_rank (left t) (right t))
      | false ↦ λ h.
          let e : n ≢ at = grind (arith, nat_tests) in
          node_other nodes at n x e ∙ matches n from less e ∙ sym (λ t. first_rank (left t) (right t))
    ] refl

-- the leaves stay
pub match_leaves : (size : ℕ) (nodes : List (Option Rank)) (at : ℕ) (x : Option Rank) → at < size → (n : ℕ) → size ≤ n
    → node_at (set nodes at x) n ≡ node_at nodes n
match_leaves size nodes at x low n from = node_other nodes at n x (omega (arith, low, from))

-- where the last match was the root all are as they are to be
pub all_matches : (size : ℕ) (nodes : List (Option Rank)) (but : ℕ) → but ≡ 0 → AreOtherMatches size nodes but → AreMatches size nodes
all_matches size nodes but none matches n from less = matches n from less (omega (arith, none, from))

-- the tree after a leaf was written
pub ranking_set : (size : ℕ) (old new : List (Option Rank)) (place : ℕ) (key : Option ℕ) → IsRanking size old → length new ≡ length old
    → ((n : ℕ) → size ≤ n → node_at new n ≡ (if n == size + place then rank_for place key else node_at old n)) → AreMatches size new → IsRanking size new
ranking_set size old new place key is len leaves matches = record {
  len = len ∙ is.len;
  leaves = λ p. subst (λ (x : Option Rank). x ≡ rank_for p (key_of x)) (sym (leaves (size + p) (omega arith)))
      (elim (size + p == size + place) as (λ b. (size + p == size + place) ≡ b
      → (if b then rank_for place key else node_at old (size + p)) ≡ rank_for p (key_of (if b then rank_for place key else node_at old (size + p)))) [
        | true ↦ λ h. (let e : place ≡ p = grind (arith, nat_tests) in ranked key p e)
        | false ↦ λ h. is.leaves p
      ] refl);
  matches = matches;
} where
  ranked : (k : Option ℕ) (p : ℕ) → place ≡ p → rank_for place k ≡ rank_for p (key_of (rank_for place k))
  ranked None p e = refl
  ranked (Some a) p e = ap (λ (n : ℕ). rank_for n (Some a)) e

pub keys_set : (size : ℕ) (old new : List (Option Rank)) (place : ℕ) (key : Option ℕ)
    → ((n : ℕ) → size ≤ n → node_at new n ≡ (if n == size + place then rank_for place key else node_at old n)) → (p : ℕ)
    → key_of (node_at new (size + p)) ≡ (if p == place then key else key_of (node_at old (size + p)))
keys_set size old new place key leaves p =
    ap key_of (leaves (size + p) (omega arith))
    ∙ (elim (p == place) as (λ b. (p == place) ≡ b
    → key_of (if size + p == size + place then rank_for place key else node_at old (size + p)) ≡ (if b then key else key_of (node_at old (size + p)))) [
      | true ↦ λ h. (let same : (size + p == size + place) ≡ true = grind (arith, nat_tests) in rw same (ranked key))
      | false ↦ λ h. (let other : (size + p == size + place) ≡ false = grind (arith, nat_tests) in rw other refl)
    ] refl) where
      ranked : (k : Option ℕ) → key_of (rank_for place k) ≡ k
      ranked None = refl
      ranked (Some a) = refl
