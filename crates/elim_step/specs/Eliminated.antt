-- What the cells between places come to once some points are eliminated, in the terms of walks: weight_at, point_at, IsGround,
-- IsEliminated. The place k stands for the k-th of a list of points, and the eliminated points are listed with the last one first.
use Rattle.std.specs.Prelude.{◌≡◌, ◌≢◌, ℕ, ℤ, ◌<◌, pos, neg_ℤ, ◌≤ℤ◌, List, Bool, not, Option, Some, None, length, slice_index_or, Contains}
use Rattle.stn_model.specs.Limits.{greatest_walk, most_points}
use Rattle.stn_model.specs.declared.ids.Constraint.{Constraint}
use Rattle.stn_model.specs.ArcWalks.{NoNegative}
use Rattle.stn_walk.specs.Eliminations.{is_in, cell_of, before_both}
use Rattle.dist_rows.specs.declared.cell.Cell.{Cell}
use Rattle.elim_step.specs.Eliminates.{remains}

-- the weight of a cell, where there is one
abbrev pub weight_at : Option Cell → Option ℤ
weight_at None = None
weight_at (Some c) = Some c.weight

-- the point at a place
abbrev pub point_at : List ℕ → ℕ → ℕ
point_at points k = slice_index_or points k 0

-- a point is one of the list
abbrev pub IsListed : List ℕ → ℕ → Type 0
IsListed points p = (k : ℕ) × (k < length points) × (point_at points k ≡ p)

-- the arcs join points of the list, in which no point stands twice, and weigh little
pub record IsGround (points : List ℕ) (arcs : List Constraint) : Type 0 where
  pub apart : (i j : ℕ) → i < length points → j < length points → point_at points i ≡ point_at points j → i ≡ j
  pub starts : (a : Constraint) → Contains arcs a → IsListed points a.from.0
  pub ends : (a : Constraint) → Contains arcs a → IsListed points a.to.0
  pub below : (k : ℕ) → k < length points → point_at points k < most_points
  pub light : (a : Constraint) → Contains arcs a → (neg_ℤ (pos greatest_walk) ≤ℤ a.bound) × (a.bound ≤ℤ pos greatest_walk)

-- the weight from one point to another through the eliminated points that come before both
abbrev pub forward_of : List Constraint → List ℕ → ℕ → ℕ → Option ℤ
forward_of arcs es i j = cell_of arcs (before_both es i j) i j

-- the cells are those weights, no closed walk through eliminated points is negative, and the places of the others remain
pub record IsEliminated (points : List ℕ) (arcs : List Constraint) (es : List ℕ) (at : ℕ → ℕ → Option Cell) (remain : List Bool) : Type 0 where
  pub cells : (i j : ℕ) → i < length points → j < length points → i ≢ j → weight_at (at i j) ≡ forward_of arcs es (point_at points i) (point_at points j)
  pub none_below : NoNegative (is_in es) arcs
  pub remaining : (k : ℕ) → k < length points → remains remain k ≡ not (is_in es (point_at points k))
  pub len : length remain ≡ length points
