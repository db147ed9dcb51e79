-- Regions of pairs, one after another.
--
-- An elimination of k lowers the pairs of its remaining neighbours in some order: by pairs, rows and blocks. Each part of
-- that work lowers the pairs of a region, by the sum of the cells (i, k) and (k, j) as they stand at that moment. No
-- region has a pair with k, so these two cells are still those of the beginning: the sum of a pair is the same whenever
-- it is formed. And a cell that is lowered to the same sum twice is lowered once. So two regions, one after the other,
-- are their union (`region-join`), whatever they share, and the order does not matter. Each loop keeps "the cells are
-- those after the region so far", and at its end the region is that of all pairs of neighbours.
use Rattle.std.proofs.Common.{◌≡◌, ℕ, ◌<◌, ◌≤◌, List, Bool, true, false, ◌&&◌, ◌||◌, not, Option, Some, None, ap, ◌∙◌, refl, arith}
use Rattle.std.specs.Prelude.{◌==◌, if◌then◌else◌, int_lt, nat_lt, nat_le}
use Rattle.std.proofs.Math.Bool.{and-false}
use Rattle.std.proofs.lemmas.Bool.Decides.{nat_tests}
use Rattle.std.proofs.lemmas.Int.{ints}
use Rattle.dist_rows.specs.declared.cell.Cell.{Cell}
use Rattle.dist_rows.specs.Cells.{lesser}
use Rattle.elim_step.specs.Eliminates.{lesser_of, sum_through}
use Rattle.stn_walk.specs.Eliminations.{is_in}
use Rattle.elim_step.specs.Blocks.{IsBlock}
use Rattle.elim_step.specs.Regions.{through, region_after}

int_lt-same : (a : _) → int_lt a a ≡ false
int_lt-same a = grind (arith, ints)

-- a cell that is lowered twice is lowered once
pub lesser_of-twice : (old s : Option Cell) → lesser_of (lesser_of old s) s ≡ lesser_of old s
lesser_of-twice old None = refl
lesser_of-twice None (Some c) = rw (int_lt-same c.weight) refl
lesser_of-twice (Some o) (Some c) =
    let P : Bool → Type 0 = λ b. int_lt c.weight o.weight ≡ b → lesser (if b then Some c else Some o) c ≡ (if b then Some c else Some o) in
    (elim (int_lt c.weight o.weight) as P [ true ↦ λ h. rw (int_lt-same c.weight) refl | false ↦ λ h. rw h refl ]) refl

chosen : (d e n : Bool) (x s : Option Cell)
    → (if e && n then lesser_of (if d && n then lesser_of x s else x) s else (if d && n then lesser_of x s else x))
    ≡ (if (d || e) && n then lesser_of x s else x)
chosen true true true x s = lesser_of-twice x s
chosen true true false x s = refl
chosen true false true x s = refl
chosen true false false x s = refl
chosen false e n x s = refl

pub region-none : (k : ℕ) (D : ℕ → ℕ → Bool) (f : ℕ → ℕ → Option Cell) (p q : ℕ) → D p q ≡ false → region_after k D f p q ≡ f p q
region-none k D f p q h = rw h refl

-- cells between k and others stay
pub kept-first : (k : ℕ) (D : ℕ → ℕ → Bool) (f g : ℕ → ℕ → Option Cell) → ((p q : ℕ) → g p q ≡ region_after k D f p q) → ((p : ℕ) → D p k ≡ false) → (p : ℕ)
    → g p k ≡ f p k
kept-first k D f g is away p = is p k ∙ region-none k D f p k (away p)

pub kept-second : (k : ℕ) (D : ℕ → ℕ → Bool) (f g : ℕ → ℕ → Option Cell) → ((p q : ℕ) → g p q ≡ region_after k D f p q) → ((q : ℕ) → D k q ≡ false) → (q : ℕ)
    → g k q ≡ f k q
kept-second k D f g is away q = is k q ∙ region-none k D f k q (away q)

-- two regions, one after the other, are one region where the first has no pair with k
pub region-join : (k : ℕ) (D E F : ℕ → ℕ → Bool) (f g h : ℕ → ℕ → Option Cell)
    → ((p q : ℕ) → g p q ≡ region_after k D f p q) → ((p q : ℕ) → h p q ≡ region_after k E g p q)
    → ((p : ℕ) → D p k ≡ false) → ((q : ℕ) → D k q ≡ false) → ((p q : ℕ) → (D p q || E p q) ≡ F p q)
    → (p q : ℕ) → h p q ≡ region_after k F f p q
region-join k D E F f g h first second away_in away_out joined p q =
    second p q
    ∙ (λ i. if E p q && not (p == q) then lesser_of (first p q i)
    (sum_through k (kept-first k D f g first away_in p i) (kept-second k D f g first away_out q i)) else first p q i)
    ∙ chosen (D p q) (E p q) (not (p == q)) (f p q) (sum_through k (f p k) (f k q))
    ∙ ap (λ b. if b && not (p == q) then through k f p q else f p q) (joined p q)

pub region-same : (k : ℕ) (D F : ℕ → ℕ → Bool) (f g : ℕ → ℕ → Option Cell) → ((p q : ℕ) → g p q ≡ region_after k D f p q) → ((p q : ℕ) → D p q ≡ F p q)
    → (p q : ℕ) → g p q ≡ region_after k F f p q
region-same k D F f g is same p q = is p q ∙ ap (λ b. if b && not (p == q) then through k f p q else f p q) (same p q)

pub and-or-right : (x y z : Bool) → ((x && y) || (x && z)) ≡ (x && (y || z))
and-or-right true y z = refl
and-or-right false y z = refl

pub and-or-left : (x y z : Bool) → ((x && y) || (z && y)) ≡ ((x || z) && y)
and-or-left true true z = refl
and-or-left true false true = refl
and-or-left true false false = refl
and-or-left false y z = refl

-- an interval with the next one
pub interval-more : (a e p : ℕ) (t : Bool) → a ≤ e → ((nat_lt p a && t) || (nat_le a p && nat_lt p e && t)) ≡ (nat_lt p e && t)
interval-more a e p true le = grind (arith, nat_tests)
interval-more a e p false le = grind (arith, nat_tests)

-- the places before a block with those of the block
pub block-joined : (test : ℕ → Bool) (a e : ℕ) (ns : List ℕ) → IsBlock test a e ns → (p : ℕ) → ((nat_lt p a && test p) || is_in ns p) ≡ (nat_lt p e && test p)
block-joined test a e ns is p = ap (λ b. (nat_lt p a && test p) || b) (is.each p) ∙ interval-more a e p (test p) is.order

-- all places that pass are before the end
pub all-before : (e p : ℕ) (t : Bool) → (t ≡ true → p < e) → (nat_lt p e && t) ≡ t
all-before e p true low = (let l = low refl in grind (arith, nat_tests))
all-before e p false low = and-false (nat_lt p e)

-- no place is before the first
pub none-before : (a p : ℕ) (t : Bool) → a ≡ 0 → (nat_lt p a && t) ≡ false
none-before a p true e = grind (arith, nat_tests)
none-before a p false e = and-false (nat_lt p a)

-- no pair of a place that does not pass
pub row-away : (x a b : Bool) → b ≡ false → (x && (a && b)) ≡ false
row-away x a b h = rw h (rw (and-false a) (and-false x))

pub column-away : (a b c : Bool) → b ≡ false → ((a && b) && c) ≡ false
column-away a b c h = rw h (rw (and-false a) refl)
