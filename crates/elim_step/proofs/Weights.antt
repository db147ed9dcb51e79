-- Weights of cells under one elimination and one revisit.
use Rattle.std.proofs.Common.{◌≡◌, ℕ, List, ◌∷◌, Bool, true, false, ◌||◌, Option, Some, None, ap, refl, arith}
use Rattle.std.specs.Prelude.{ℤ, pos, if◌then◌else◌, int_lt, ◌+ℤ◌}
use Rattle.std.proofs.lemmas.Int.{ints}
use Rattle.stn_model.specs.declared.ids.Constraint.{Constraint}
use Rattle.stn_walk.proofs.Eliminations.{before-whole}
use Rattle.stn_walk.specs.Eliminations.{is_in, cell_of, before_both, lesser, sum_of, IsNotBelow}
use Rattle.dist_rows.specs.declared.cell.Cell.{Cell}
use Rattle.dist_rows.specs.declared.cell.Via.TheVariants.{Through}
use Rattle.elim_step.specs.Eliminates.{lesser_of, sum_through, is_negative}
use Rattle.elim_step.specs.Eliminated.{weight_at, forward_of}

picked : (b : Bool) (c x : Cell) → weight_at (if b then Some c else Some x) ≡ (if b then Some c.weight else Some x.weight)
picked true c x = refl
picked false c x = refl

pub weight-through : (k : ℕ) (x y z : Option Cell) → weight_at (lesser_of x (sum_through k y z)) ≡ lesser (weight_at x) (sum_of (weight_at y) (weight_at z))
weight-through k None None z = refl
weight-through k (Some x) None z = refl
weight-through k None (Some y) None = refl
weight-through k (Some x) (Some y) None = refl
weight-through k None (Some y) (Some z) = refl
weight-through k (Some x) (Some y) (Some z) = picked (int_lt (y.weight +ℤ z.weight) x.weight) (record { weight = y.weight +ℤ z.weight; via = Through k }) x

pub forward-whole : (arcs : List Constraint) (es : List ℕ) (i j : ℕ) → is_in es i ≡ false → is_in es j ≡ false → forward_of arcs es i j ≡ cell_of arcs es i j
forward-whole arcs es i j h g = ap (λ o. cell_of arcs o i j) (before-whole es i j h g)

-- a pair that the elimination does not touch
pub forward-kept : (arcs : List Constraint) (k : ℕ) (es : List ℕ) (i j : ℕ) → (is_in (k ∷ es) i || is_in (k ∷ es) j) ≡ true
    → forward_of arcs (k ∷ es) i j ≡ forward_of arcs es i j
forward-kept arcs k es i j h = ap (λ b. cell_of arcs (if b then before_both es i j else k ∷ es) i j) h

-- whether two weights are there and sum below 0
abbrev pub sums_below : Option ℤ → Option ℤ → Bool
sums_below None b = false
sums_below (Some a) None = false
sums_below (Some a) (Some b) = int_lt (a +ℤ b) (pos 0)

pub negative-is : (x y : Option Cell) → is_negative x y ≡ sums_below (weight_at x) (weight_at y)
negative-is None y = refl
negative-is (Some x) None = refl
negative-is (Some x) (Some y) = refl

pub not_below : (x y : Option ℤ) → sums_below y x ≡ false → IsNotBelow x y
not_below None y h = tt
not_below (Some a) None h = tt
not_below (Some a) (Some b) h = grind (arith, ints)
