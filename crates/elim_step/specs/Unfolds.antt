-- Cells unfolded into the leaves that they are sums of.
--   Places                               the point of each place, and the eliminated points, the last one first
--   HasSums                              each cell is a leaf, or a sum of two cells that came to be before it
--   IsLeafOf, LeadFrom, leaves_weight    a leaf beside the cells; leaves that lead from place to place; what they weigh together
--   Unfolds, IsAhead, LeadsOn, weight_in, segments_weight, size_in, segments_size, IsUnfolding
--                                        underway: the segments still to be unfolded are a stack, whose last one is the next one of the walk
use Rattle.std.specs.Prelude.{◌≡◌, ℕ, ℤ, pos, ◌+◌, ◌*◌, ◌^◌, ◌<◌, ◌+ℤ◌, List, [], ◌∷◌, ◌++◌, true, Option, Some, None, length, is_some, ◌⊎◌}
use Rattle.std.specs.List.{AllByRecursion}
use Rattle.stn_walk.specs.Eliminations.{is_in}
use Rattle.dist_rows.specs.declared.cell.Cell.{Cell}
use Rattle.dist_rows.specs.declared.cell.Via.{Via}
use Rattle.dist_rows.specs.declared.cell.Via.TheVariants.{Given, Published, Through}
use Rattle.elim_step.specs.Eliminated.{point_at, weight_at}
use Rattle.elim_step.specs.Origins.{rank_of, is_leaf, HasOrigins}
use Rattle.elim_step.specs.declared.leaves.Leaf.{Leaf}
use Rattle.elim_step.specs.declared.leaves.Segment.{Segment}

-- the point of each place, and the eliminated points with the last one first
pub record Places : Type 0 where
  pub points : List ℕ
  pub es : List ℕ

-- each cell is a leaf, whatever it comes from, or a sum of two cells through an eliminated place that came to be before it
abbrev pub HasSums : List ℕ → List ℕ → (ℕ → ℕ → Option Cell) → Type 0
HasSums points es at = HasOrigins (λ p q c v. Unit {0}) points es at

-- the leaf is a cell that is no sum, and ends at an eliminated point or at place j
pub record IsLeafOf (points es : List ℕ) (at : ℕ → ℕ → Option Cell) (j : ℕ) (l : Leaf) : Type 0 where
  pub cell : at l.from l.to ≡ Some (record { weight = l.weight; via = l.via })
  pub leaf : is_leaf l.via ≡ true
  pub through : (is_in es (point_at points l.to) ≡ true) ⊎ (l.to ≡ j)

-- the leaves lead from place i to place j
abbrev pub LeadFrom : List Leaf → ℕ → ℕ → Type 0
LeadFrom [] i j = i ≡ j
LeadFrom (l ∷ leaves) i j = (l.from ≡ i) × LeadFrom leaves l.to j

-- what they weigh together
abbrev pub leaves_weight : List Leaf → ℤ
leaves_weight [] = pos 0
leaves_weight (l ∷ leaves) = l.weight +ℤ leaves_weight leaves

-- the leaves and the stack before and after a segment of a weight is unfolded: it is one leaf more, or two segments in turn, the first one on top
abbrev pub Unfolds : Segment → ℤ → Via → List Leaf → List Leaf → List Segment → List Segment → Type 0
Unfolds segment w (Given n) leaves leaves' ahead ahead' =
    (leaves' ≡ leaves ++ record { from = segment.from; to = segment.to; weight = w; via = Given n } ∷ []) × (ahead' ≡ ahead)
Unfolds segment w (Published a) leaves leaves' ahead ahead' =
    (leaves' ≡ leaves ++ record { from = segment.from; to = segment.to; weight = w; via = Published a } ∷ []) × (ahead' ≡ ahead)
Unfolds segment w (Through k) leaves leaves' ahead ahead' =
    (leaves' ≡ leaves) × (ahead' ≡ ahead ++ record { from = k; to = segment.to } ∷ [] ++ record { from = segment.from; to = k } ∷ [])

-- the segment has a cell, and ends at an eliminated point or at place j
pub record IsAhead (points es : List ℕ) (at : ℕ → ℕ → Option Cell) (j : ℕ) (segment : Segment) : Type 0 where
  pub starts : segment.from < length points
  pub ends : segment.to < length points
  pub there : is_some (at segment.from segment.to) ≡ true
  pub through : (is_in es (point_at points segment.to) ≡ true) ⊎ (segment.to ≡ j)

-- the segments, the last one first, lead from m to j
abbrev pub LeadsOn : List Segment → ℕ → ℕ → Type 0
LeadsOn [] m j = m ≡ j
LeadsOn (segment ∷ ahead) m j = (segment.to ≡ j) × LeadsOn ahead m segment.from

-- the weight of a cell, and 0 where there is none
abbrev pub weight_in : Option Cell → ℤ
weight_in None = pos 0
weight_in (Some c) = c.weight

-- what the cells of the segments weigh together
abbrev pub segments_weight : (ℕ → ℕ → Option Cell) → List Segment → ℤ
segments_weight at [] = pos 0
segments_weight at (segment ∷ ahead) = weight_in (at segment.from segment.to) +ℤ segments_weight at ahead

-- a number that is greater for a sum than for its two cells together
abbrev pub size_in : List ℕ → List ℕ → Option Cell → ℕ
size_in points es None = 0
size_in points es (Some c) = 2 ^ (2 * rank_of points es c.via)

-- the sum over the segments
abbrev pub segments_size : List ℕ → List ℕ → (ℕ → ℕ → Option Cell) → List Segment → ℕ
segments_size points es at [] = 0
segments_size points es at (segment ∷ ahead) = size_in points es (at segment.from segment.to) + segments_size points es at ahead

-- the leaves so far and the segments ahead lead from i to j, through eliminated points, and weigh as much as the cell
pub record IsUnfolding (points es : List ℕ) (at : ℕ → ℕ → Option Cell) (i j : ℕ) (leaves : List Leaf) (ahead : List Segment) : Type 0 where
  pub middle : ℕ
  pub walked : LeadFrom leaves i middle
  pub leads : LeadsOn ahead middle j
  pub leaf : AllByRecursion (IsLeafOf points es at j) leaves
  pub each : AllByRecursion (IsAhead points es at j) ahead
  pub weighs : Some (leaves_weight leaves +ℤ segments_weight at ahead) ≡ weight_at (at i j)
