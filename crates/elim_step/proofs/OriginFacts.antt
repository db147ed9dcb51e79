-- Origins of cells: that they stay where cells become leaves, where more counts as a leaf, and where one more point is eliminated:
-- origins_none, origins_wider, origins_changed, origins_lowered, origins_kept.
use Rattle.std.proofs.Common.{◌≡◌, ℕ, suc, ◌<◌, ◌≤◌, List, [], ◌∷◌, Bool, true, false, ◌||◌, ◌&&◌, not, Option, Some, None, length, ap, ◌∙◌}
use Rattle.std.proofs.Common.{refl, subst, arith, ◌⊎◌, inl, inr}
use Rattle.std.specs.Prelude.{◌==◌, ◌+ℤ◌, int_lt, if◌then◌else◌, IfSome}
use Rattle.std.proofs.lemmas.Bool.{and_parts}
use Rattle.std.proofs.lemmas.Bool.Decides.{nat_tests}
use Rattle.stn_walk.specs.Eliminations.{is_in}
use Rattle.dist_rows.specs.declared.cell.Cell.{Cell}
use Rattle.dist_rows.specs.declared.cell.Via.{Via}
use Rattle.dist_rows.specs.declared.cell.Via.TheVariants.{Given, Published, Through}
use Rattle.dist_rows.specs.Cells.{lesser, lowered}
use Rattle.elim_step.specs.Eliminates.{remains, is_pair, lesser_of, sum_through, eliminated}
use Rattle.elim_step.specs.Eliminated.{point_at}
use Rattle.elim_step.specs.Origins.{rank_in, rank_of, IsSumOf, is_leaf, IsFrom, HasOrigins}

-- no cell
pub origins_none : (leaf : ℕ → ℕ → Cell → Via → Type 0) (points es : List ℕ) (at : ℕ → ℕ → Option Cell) → ((p q : ℕ) → at p q ≡ None)
    → HasOrigins leaf points es at
origins_none leaf points es at empty p q = rw (empty p q) tt

module _ (leaf leaf' : ℕ → ℕ → Cell → Via → Type 0) (points es : List ℕ) (at : ℕ → ℕ → Option Cell)
    (wider : (p q : ℕ) (c : Cell) (v : Via) → leaf p q c v → leaf' p q c v) (origins : HasOrigins leaf points es at) where
  wider-from : (p q : ℕ) (c : Cell) (v : Via) → IsFrom leaf points es at p q c v → IsFrom leaf' points es at p q c v
  wider-from p q c (Given n) h = wider p q c (Given n) h
  wider-from p q c (Published a) h = wider p q c (Published a) h
  wider-from p q c (Through k) h = h

  wider-at : (p q : ℕ) (o : Option Cell) → IfSome o (λ c. IsFrom leaf points es at p q c c.via) → IfSome o (λ c. IsFrom leaf' points es at p q c c.via)
  wider-at p q None h = tt
  wider-at p q (Some c) h = wider-from p q c c.via h

  -- more counts as a leaf than before
  pub origins_wider : HasOrigins leaf' points es at
  origins_wider p q = wider-at p q (at p q) (origins p q)

module _ (leaf : ℕ → ℕ → Cell → Via → Type 0) (points es : List ℕ) (at after : ℕ → ℕ → Option Cell) (origins : HasOrigins leaf points es at)
    (stays : (p q m : ℕ) → m < length points → is_in es (point_at points m) ≡ true → (after p m ≡ at p m) × (after m q ≡ at m q)) where
  leaf-from : (p q : ℕ) (c : Cell) (v : Via) → is_leaf v ≡ true → leaf p q c v → IsFrom leaf points es after p q c v
  leaf-from p q c (Given n) e h = h
  leaf-from p q c (Published a) e h = h
  leaf-from p q c (Through k) e h = absurd (cc)

  stay-from : (p q : ℕ) (c : Cell) (v : Via) → IsFrom leaf points es at p q c v → IsFrom leaf points es after p q c v
  stay-from p q c (Given n) h = h
  stay-from p q c (Published a) h = h
  stay-from p q c (Through m) h =
      let same = stays p q m h.within h.eliminated in
      record {
        within = h.within;
        eliminated = h.eliminated;
        front = h.front;
        back = h.back;
        is_front = same.0 ∙ h.is_front;
        is_back = same.1 ∙ h.is_back;
        weighs = h.weighs;
        front_before = h.front_before;
        back_before = h.back_before;
      }

  change-from : (p q : ℕ) (c : Cell) → (at p q ≡ Some c) ⊎ ((is_leaf c.via ≡ true) × leaf p q c c.via) → IsFrom leaf points es after p q c c.via
  change-from p q c (inl is) =
      stay-from p q c c.via (subst (λ (o : Option Cell). IfSome o (λ c. IsFrom leaf points es at p q c c.via)) is (origins p q))
  change-from p q c (inr new) = leaf-from p q c c.via new.0 new.1

  change-at : (p q : ℕ) (o : Option Cell) → IfSome o (λ c. (at p q ≡ Some c) ⊎ ((is_leaf c.via ≡ true) × leaf p q c c.via))
      → IfSome o (λ c. IsFrom leaf points es after p q c c.via)
  change-at p q None h = tt
  change-at p q (Some c) h = change-from p q c h

  -- each cell is as before or a leaf, and those of eliminated places are as before
  pub origins_changed : ((p q : ℕ) → IfSome (after p q) (λ c. (at p q ≡ Some c) ⊎ ((is_leaf c.via ≡ true) × leaf p q c c.via)))
      → HasOrigins leaf points es after
  origins_changed change p q = change-at p q (after p q) (change p q)

-- a cell that was there stays as it is
stays-some : (leaf : ℕ → ℕ → Cell → Via → Type 0) (at : ℕ → ℕ → Option Cell) (p q : ℕ) (o : Option Cell) → at p q ≡ o
    → IfSome o (λ c. (at p q ≡ Some c) ⊎ ((is_leaf c.via ≡ true) × leaf p q c c.via))
stays-some leaf at p q None is = tt
stays-some leaf at p q (Some c) is = inl is

-- the lesser of a cell and a leaf
lesser-some : (leaf : ℕ → ℕ → Cell → Via → Type 0) (at : ℕ → ℕ → Option Cell) (p q : ℕ) (o : Option Cell) (cell : Cell) → at p q ≡ o
    → is_leaf cell.via ≡ true → leaf p q cell cell.via
    → IfSome (lesser o cell) (λ c. (at p q ≡ Some c) ⊎ ((is_leaf c.via ≡ true) × leaf p q c c.via))
lesser-some leaf at p q None cell is via new = inr (via, new)
lesser-some leaf at p q (Some old) cell is via new =
    elim (int_lt cell.weight old.weight) as
    (λ b. IfSome (if b then Some cell else Some old) (λ c. (at p q ≡ Some c) ⊎ ((is_leaf c.via ≡ true) × leaf p q c c.via)))
    [ true ↦ inr (via, new) | false ↦ inl is ]

module _ (leaf : ℕ → ℕ → Cell → Via → Type 0) (points es : List ℕ) (at after : ℕ → ℕ → Option Cell) (origins : HasOrigins leaf points es at)
    (i j : ℕ) (from_left : is_in es (point_at points i) ≡ false) (to_left : is_in es (point_at points j) ≡ false) (cell : Cell)
    (changed : (p q : ℕ) → after p q ≡ lowered i j cell at p q) where
  -- a place whose point is eliminated is none whose point is not
  gone-apart : (m k : ℕ) → is_in es (point_at points m) ≡ true → is_in es (point_at points k) ≡ false → (m == k) ≡ false
  gone-apart m k gone left =
      elim (m == k) as (λ b. (m == k) ≡ b → b ≡ false) [
        | true ↦ λ t. let e : m ≡ k = grind (arith, nat_tests) in cc (ap (λ k. is_in es (point_at points k)) e)
        | false ↦ λ t. refl
      ] refl

  lowered-stays : (p q m : ℕ) → m < length points → is_in es (point_at points m) ≡ true → (after p m ≡ at p m) × (after m q ≡ at m q)
  lowered-stays p q m low gone = (
    changed p m ∙ ap (λ b. if b then lesser (at i j) cell else at p m) (ap (λ b. (p == i) && b) (gone-apart m j gone to_left) ∙ and_false (p == i)),
    changed m q ∙ ap (λ b. if b && (q == j) then lesser (at i j) cell else at m q) (gone-apart m i gone from_left),
  ) where
    and_false : (b : Bool) → (b && false) ≡ false
    and_false true = refl
    and_false false = refl

  -- a cell between two places that are not eliminated is lowered to a leaf
  pub origins_lowered : is_leaf cell.via ≡ true → leaf i j cell cell.via → HasOrigins leaf points es after
  origins_lowered via new =
      origins_changed leaf points es at after origins lowered-stays
      (λ p q. rw (changed p q) (elim ((p == i) && (q == j)) as (λ b. ((p == i) && (q == j)) ≡ b
      → IfSome (if b then lesser (at i j) cell else at p q) (λ c. (at p q ≡ Some c) ⊎ ((is_leaf c.via ≡ true) × leaf p q c c.via))) [
        | true ↦ λ t.
            let b = and_parts (p == i) (q == j) t in
            let ep : p ≡ i = (let e = b.0 in grind (arith, nat_tests)) in
            let eq : q ≡ j = (let e = b.1 in grind (arith, nat_tests)) in
            rw (ep, eq) (lesser-some leaf at i j (at i j) cell refl via new)
        | false ↦ λ t. stays-some leaf at p q (at p q) refl
      ] refl))

-- no rank is above the number of points
rank-most : (es : List ℕ) (p : ℕ) → rank_in es p ≤ length es
rank-most [] p = omega arith
rank-most (k ∷ es) p = elim (p == k) as (λ b. (if b then suc (length es) else rank_in es p) ≤ suc (length es)) [
  | true ↦ omega arith
  | false ↦ omega (arith, rank-most es p)
]

-- a point of the list is not one that is fresh
fresh-apart : (es : List ℕ) (x y : ℕ) → is_in es x ≡ false → is_in es y ≡ true → (y == x) ≡ false
fresh-apart es x y out here =
    elim (y == x) as (λ b. (y == x) ≡ b → b ≡ false) [
      | true ↦ λ t. let e : y ≡ x = grind (arith, nat_tests) in cc (ap (is_in es) e)
      | false ↦ λ t. refl
    ] refl

-- so its rank stays
rank-stays : (es : List ℕ) (x y : ℕ) → is_in es x ≡ false → is_in es y ≡ true → rank_in (x ∷ es) y ≡ rank_in es y
rank-stays es x y out here = ap (λ b. if b then suc (length es) else rank_in es y) (fresh-apart es x y out here)

module _ (leaf : ℕ → ℕ → Cell → Via → Type 0) (points es : List ℕ) (at : ℕ → ℕ → Option Cell) (origins : HasOrigins leaf points es at) where
  origin-of : (p q : ℕ) (c : Cell) → at p q ≡ Some c → IsFrom leaf points es at p q c c.via
  origin-of p q c is = subst (λ (o : Option Cell). IfSome o (λ c. IsFrom leaf points es at p q c c.via)) is (origins p q)

  module _ (x : ℕ) (fresh : is_in es x ≡ false) where
    rank-kept : (p q : ℕ) (c : Cell) (v : Via) → IsFrom leaf points es at p q c v → rank_of points (x ∷ es) v ≡ rank_of points es v
    rank-kept p q c (Given n) h = refl
    rank-kept p q c (Published a) h = refl
    rank-kept p q c (Through m) h = rank-stays es x (point_at points m) fresh h.eliminated

    -- the rank of a cell that is there
    rank-at : (p q : ℕ) (c : Cell) → at p q ≡ Some c → rank_of points (x ∷ es) c.via ≡ rank_of points es c.via
    rank-at p q c is = rank-kept p q c c.via (origin-of p q c is)

    -- and it is below that of the point that is eliminated next
    rank-below : (v : Via) → rank_of points es v < suc (length es)
    rank-below (Given n) = omega arith
    rank-below (Published a) = omega arith
    rank-below (Through m) = omega (arith, rank-most es (point_at points m))

    module _ (k : ℕ) (lk : k < length points) (is_next : point_at points k ≡ x) (after : ℕ → ℕ → Option Cell) where
      -- an origin that is kept, where the two cells of a sum are
      from-kept : (p q : ℕ) (c : Cell) (v : Via)
          → ((m : ℕ) → m < length points → is_in es (point_at points m) ≡ true → (after p m ≡ at p m) × (after m q ≡ at m q))
          → IsFrom leaf points es at p q c v → IsFrom leaf points (x ∷ es) after p q c v
      from-kept p q c (Given n) stays h = h
      from-kept p q c (Published a) stays h = h
      from-kept p q c (Through m) stays h =
          let same = stays m h.within h.eliminated in
          let rank = rank-stays es x (point_at points m) fresh h.eliminated in
          let front_rank = rank-at p m h.front h.is_front in
          let back_rank = rank-at m q h.back h.is_back in
          record {
            within = h.within;
            eliminated = ap (λ b. b || (point_at points m == x)) h.eliminated;
            front = h.front;
            back = h.back;
            is_front = same.0 ∙ h.is_front;
            is_back = same.1 ∙ h.is_back;
            weighs = h.weighs;
            front_before = rw (rank, front_rank) h.front_before;
            back_before = rw (rank, back_rank) h.back_before;
          }

      -- the origin of the sum through the point that is eliminated
      from-sum : (p q : ℕ) (a b : Cell) → at p k ≡ Some a → at k q ≡ Some b → after p k ≡ at p k → after k q ≡ at k q
          → IsSumOf points (x ∷ es) after p q (record { weight = a.weight +ℤ b.weight; via = Through k }) k
      from-sum p q a b is_a is_b same_a same_b =
          let here : (point_at points k == x) ≡ true = grind (arith, nat_tests) in
          let top : rank_in (x ∷ es) (point_at points k) ≡ suc (length es) = ap (λ b. if b then suc (length es) else rank_in es (point_at points k)) here in
          record {
            within = lk;
            eliminated = ap (λ b. is_in es (point_at points k) || b) here ∙ or_true (is_in es (point_at points k));
            front = a;
            back = b;
            is_front = same_a ∙ is_a;
            is_back = same_b ∙ is_b;
            weighs = refl;
            front_before = rw (top, rank-at p k a is_a) (rank-below a.via);
            back_before = rw (top, rank-at k q b is_b) (rank-below b.via);
          } where
            or_true : (b : Bool) → (b || true) ≡ true
            or_true true = refl
            or_true false = refl

      -- the lesser of a cell and the sum, each with its origin
      from-lesser : (p q : ℕ) (y a b : Option Cell) → ((c : Cell) → y ≡ Some c → IsFrom leaf points (x ∷ es) after p q c c.via)
          → ((c d : Cell) → a ≡ Some c → b ≡ Some d → IsSumOf points (x ∷ es) after p q (record { weight = c.weight +ℤ d.weight; via = Through k }) k)
          → IfSome (lesser_of y (sum_through k a b)) (λ c. IsFrom leaf points (x ∷ es) after p q c c.via)
      from-lesser p q None None b old sum = tt
      from-lesser p q (Some c) None b old sum = old c refl
      from-lesser p q None (Some a) None old sum = tt
      from-lesser p q (Some c) (Some a) None old sum = old c refl
      from-lesser p q None (Some a) (Some b) old sum = sum a b refl refl
      from-lesser p q (Some c) (Some a) (Some b) old sum =
          let s : Cell = record { weight = a.weight +ℤ b.weight; via = Through k } in
          elim (int_lt s.weight c.weight) as (λ t. IfSome (if t then Some s else Some c) (λ c. IsFrom leaf points (x ∷ es) after p q c c.via)) [
            | true ↦ sum a b refl refl
            | false ↦ old c refl
          ]

-- a pair with the eliminated point, or with one that does not remain, is none that an elimination lowers
to-eliminated : (remain : List Bool) (k p : ℕ) → is_pair remain k p k ≡ false
to-eliminated remain k p = grind (arith, nat_tests)

from-eliminated : (remain : List Bool) (k q : ℕ) → is_pair remain k k q ≡ false
from-eliminated remain k q = grind (arith, nat_tests)

to-gone : (remain : List Bool) (k p m : ℕ) → remains remain m ≡ false → is_pair remain k p m ≡ false
to-gone remain k p m h =
    ap (λ b. not (p == m) && not (p == k) && not (m == k) && remains remain p && b) h
    ∙ and_false (not (p == m) && not (p == k) && not (m == k) && remains remain p) where
      and_false : (b : Bool) → (b && false) ≡ false
      and_false true = refl
      and_false false = refl

from-gone : (remain : List Bool) (k m q : ℕ) → remains remain m ≡ false → is_pair remain k m q ≡ false
from-gone remain k m q h =
    ap (λ b. not (m == q) && not (m == k) && not (q == k) && b && remains remain q) h
    ∙ and_false (not (m == q) && not (m == k) && not (q == k)) (remains remain q) where
      and_false : (b c : Bool) → (b && false && c) ≡ false
      and_false true c = refl
      and_false false c = refl

-- where a pair is none that is lowered, its cell stays
cell-stays : (remain : List Bool) (k : ℕ) (at : ℕ → ℕ → Option Cell) (p q : ℕ) → is_pair remain k p q ≡ false → eliminated remain k at p q ≡ at p q
cell-stays remain k at p q h = ap (λ b. if b then lesser_of (at p q) (sum_through k (at p k) (at k q)) else at p q) h

-- and else it becomes the lesser of itself and of the sum
cell-lowered : (remain : List Bool) (k : ℕ) (at : ℕ → ℕ → Option Cell) (p q : ℕ) → is_pair remain k p q ≡ true
    → eliminated remain k at p q ≡ lesser_of (at p q) (sum_through k (at p k) (at k q))
cell-lowered remain k at p q h = ap (λ b. if b then lesser_of (at p q) (sum_through k (at p k) (at k q)) else at p q) h

module _ (leaf : ℕ → ℕ → Cell → Via → Type 0) (points es : List ℕ) (at after : ℕ → ℕ → Option Cell) (remain : List Bool) (k : ℕ) (lk : k < length points)
    (fresh : is_in es (point_at points k) ≡ false)
    (remaining : (p : ℕ) → p < length points → remains remain p ≡ not (is_in es (point_at points p)))
    (origins : HasOrigins leaf points es at) (changed : (p q : ℕ) → after p q ≡ eliminated remain k at p q) where
  -- the cells of an eliminated place stay
  gone-stays : (p q m : ℕ) → m < length points → is_in es (point_at points m) ≡ true → (after p m ≡ at p m) × (after m q ≡ at m q)
  gone-stays p q m low gone =
      let out : remains remain m ≡ false = remaining m low ∙ ap not gone in (
        changed p m ∙ cell-stays remain k at p m (to-gone remain k p m out),
        changed m q ∙ cell-stays remain k at m q (from-gone remain k m q out),
      )

  -- a cell that stays
  stays-from : (p q : ℕ) (c : Cell) → at p q ≡ Some c → IsFrom leaf points (point_at points k ∷ es) after p q c c.via
  stays-from p q c is =
      from-kept leaf points es at origins (point_at points k) fresh k lk refl after p q c c.via (gone-stays p q)
      (origin-of leaf points es at origins p q c is)

  kept-at : (p q : ℕ) (o : Option Cell) → at p q ≡ o → IfSome o (λ c. IsFrom leaf points (point_at points k ∷ es) after p q c c.via)
  kept-at p q None is = tt
  kept-at p q (Some c) is = stays-from p q c is

  -- the cell of a pair that the elimination lowers
  lowered-at : (p q : ℕ) → IfSome (lesser_of (at p q) (sum_through k (at p k) (at k q))) (λ c. IsFrom leaf points (point_at points k ∷ es) after p q c c.via)
  lowered-at p q =
      from-lesser leaf points es at origins (point_at points k) fresh k lk refl after p q (at p q) (at p k) (at k q) (stays-from p q)
      (λ a b is_a is_b.
      from-sum leaf points es at origins (point_at points k) fresh k lk refl after p q a b is_a is_b
      (changed p k ∙ cell-stays remain k at p k (to-eliminated remain k p)) (changed k q ∙ cell-stays remain k at k q (from-eliminated remain k q)))

  -- an elimination of a point that was not eliminated keeps the origins
  pub origins_kept : HasOrigins leaf points (point_at points k ∷ es) after
  origins_kept p q =
      elim (is_pair remain k p q) as
      (λ b. is_pair remain k p q ≡ b → IfSome (after p q) (λ c. IsFrom leaf points (point_at points k ∷ es) after p q c c.via)) [
        | true ↦ λ t. rw (changed p q ∙ cell-lowered remain k at p q t) (lowered-at p q)
        | false ↦ λ t. rw (changed p q ∙ cell-stays remain k at p q t) (kept-at p q (at p q) refl)
      ] refl
