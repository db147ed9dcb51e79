-- Sums of plain weights are sums of cells.
use Rattle.std.proofs.Common.{◌≡◌, ℕ, Bool, true, false, Option, Some, None, ap, refl, arith, to_z, of_z}
use Rattle.std.specs.Int.{w128}
use Rattle.std.specs.Prelude.{ℤ, pos, ◌+ℤ◌, ◌<ℤ◌, ◌≤ℤ◌, ◌==◌, if◌then◌else◌, int_lt, IfSome}
use Rattle.std.proofs.lemmas.Int.{ints}
use Rattle.dist_rows.specs.declared.cell.Cell.{Cell}
use Rattle.dist_rows.specs.declared.cell.Via.TheVariants.{Through, Given}
use Rattle.dist_rows.specs.Cells.{far, weight_in, IsLight}
use Rattle.elim_step.specs.declared.sums.Sum.{Sum}
use Rattle.elim_step.specs.Eliminates.{lesser_of, sum_through}
use Rattle.elim_step.specs.Revisits.{reach_to}
use Rattle.elim_step.specs.Sums.{IsPlain, IsSum, lesser_sum, cell_for, least_limit}

-- the weight of a light cell, or of none, is plain
pub plain_in : (o : Option Cell) → IfSome o (λ c. IsLight 99 c.weight) → IsPlain (weight_in o)
plain_in None light = (omega (arith, ints), omega (arith, ints))
plain_in (Some c) light = (omega (arith, ints, light), omega (arith, ints, light))

-- a plain weight is stored as it is
pub plain_kept : (w : ℤ) → IsPlain w → to_z w128 (of_z w128 w) ≡ w
plain_kept w plain = omega (arith, ints, plain.0, plain.1)

-- a weight that is not below a sum leaves it
stays : (s : Sum) (k : ℕ) (w : ℤ) → IsSum s → least_limit ≤ℤ w → lesser_sum s k w ≡ s
stays s k w is above = (let no : int_lt w s.weight ≡ false = (let up : s.weight ≤ℤ w = omega (arith, ints, is.1, above) in grind (arith, ints)) in rw no refl)

-- a weight that is that of a sum of two cells
lowered : (s : Sum) (k : ℕ) (w : ℤ) → w <ℤ least_limit → cell_for (lesser_sum s k w) ≡ lesser_of (cell_for s) (Some (record { weight = w; via = Through k }))
lowered s k w low =
    let there : int_lt w least_limit ≡ true = grind (arith, ints) in
    elim (int_lt w s.weight) as (λ b. int_lt w s.weight ≡ b
    → cell_for (if b then record { weight = w; via = k } else s) ≡ lesser_of (cell_for s) (Some (record { weight = w; via = Through k }))) [
      | true ↦ λ less. rw there (elim (int_lt s.weight least_limit) as (λ t.
          Some (record { weight = w; via = Through k })
          ≡ lesser_of (if t then Some (record { weight = s.weight; via = Through s.via }) else None) (Some (record { weight = w; via = Through k }))) [
            | true ↦ rw less refl
            | false ↦ refl
          ])
      | false ↦ λ more.
          let here : int_lt s.weight least_limit ≡ true = (let up : s.weight ≤ℤ w = grind (arith, ints) in grind (arith, ints)) in
          rw (here, more) refl
    ] refl

-- a sum lowered to that of two plain weights has the lesser of its cell and of the sum of theirs
pub lesser-sum : (s : Sum) (k : ℕ) (a b : Option Cell) → IsSum s → IfSome a (λ c. IsLight 99 c.weight) → IfSome b (λ c. IsLight 99 c.weight)
    → cell_for (lesser_sum s k (weight_in a +ℤ weight_in b)) ≡ lesser_of (cell_for s) (sum_through k a b)
lesser-sum s k None None is first second = ap cell_for (stays s k (far +ℤ far) is (omega (arith, ints)))
lesser-sum s k None (Some b) is first second = ap cell_for (stays s k (far +ℤ b.weight) is (omega (arith, ints, second)))
lesser-sum s k (Some a) None is first second = ap cell_for (stays s k (a.weight +ℤ far) is (omega (arith, ints, first)))
lesser-sum s k (Some a) (Some b) is first second = lowered s k (a.weight +ℤ b.weight) (omega (arith, ints, first, second))

-- the weight from a place to another, where it is 0 from a place to itself
pub weight_reached : (a : ℕ) (m : ℕ) (o : Option Cell) → weight_in (reach_to a m o) ≡ (if a == m then pos 0 else weight_in o)
weight_reached a m o = chosen (a == m) where
  chosen : (t : Bool) → weight_in (if t then Some (record { weight = pos 0; via = Given 0 }) else o) ≡ (if t then pos 0 else weight_in o)
  chosen true = refl
  chosen false = refl

pub reach_light : (a m : ℕ) (o : Option Cell) → IfSome o (λ c. IsLight 99 c.weight) → IfSome (reach_to a m o) (λ c. IsLight 99 c.weight)
reach_light a m o light =
    elim (a == m) as (λ t. IfSome (if t then Some (record { weight = pos 0; via = Given 0 }) else o) (λ c. IsLight 99 c.weight)) [ true ↦ omega arith | false ↦ light ]
