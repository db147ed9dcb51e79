-- How the bounds of a back sweep came to be, so that they can be unfolded into walks: IsThrough, AreThrough, point_of_via, point_through,
-- through_between, IsForwardWeight, final_between, rest_between, Leaves, Arrives, CameThrough.
use Rattle.std.specs.Prelude.{◌≡◌, ◌≢◌, ◌⊎◌, ℕ, ◌<◌, ℤ, pos, ◌+ℤ◌, List, Bool, ◌||◌, ◌==◌, Option, Some, None, IfSome, reverse, if◌then◌else◌}
use Rattle.stn_model.specs.Inner.{IsInnerWeight}
use Rattle.stn_model.specs.Joined.{ComesBefore}
use Rattle.stn_walk.specs.Eliminations.{is_in, before_both}
use Rattle.dist_rows.specs.declared.cell.Cell.{Cell}
use Rattle.dist_rows.specs.declared.cell.Via.{Via}
use Rattle.dist_rows.specs.declared.cell.Via.TheVariants.{Given, Published, Through}
use Rattle.elim_step.specs.Eliminated.{point_at}
use Rattle.elim_step.specs.declared.summary.SummaryEntry.{SummaryEntry}
use Rattle.elim_step.specs.Summaries.{entry_in}
use Rattle.private_elim.specs.Locals.{arcs_in, is_private_in, place_in}
use Rattle.private_elim.specs.ReducedViews.{ReducedView}
use Rattle.private_elim.specs.Backs.{BoundsView, private_cells, cell_in, bound_between}

-- a weight came through a place below n
abbrev pub IsThrough : ℕ → Via → Type 0
IsThrough n (Given k) = ⊥
IsThrough n (Published a) = ⊥
IsThrough n (Through k) = k < n

-- all final cells with a private place did
abbrev pub AreThrough : ℕ → List Bool → (ℕ → ℕ → Option Cell) → Type 0
AreThrough n private at = (p q : ℕ) → IfSome (private_cells private at p q) (λ c. IsThrough n c.via)

-- the point at the place through which a weight came
abbrev pub point_of_via : List ℕ → Via → Option ℕ
point_of_via points (Given k) = None
point_of_via points (Published a) = None
point_of_via points (Through k) = Some (point_at points k)

abbrev pub point_through : List ℕ → Option Cell → Option ℕ
point_through points None = None
point_through points (Some c) = point_of_via points c.via

-- the point through which the bound between two points came
abbrev pub through_between : BoundsView → ℕ → ℕ → Option ℕ
through_between b i j = point_through b.points (cell_in b (place_in b.points i) (place_in b.points j))

-- w is the forward weight from i to j: the least weight of walks of own arcs whose inner points are private and come before both; the pair has
-- no entry of the summary, so w is its `IsWeightBetween` too
abbrev pub IsForwardWeight : ReducedView → ℕ → ℕ → ℤ → Type 0
IsForwardWeight r i j w =
    (entry_in r.summary i j ≡ None) × (i ≢ j) × IsInnerWeight (is_in (before_both (reverse r.order) i j)) (arcs_in r.local) i j (Some w)

-- the final bound between two points: what the sweep gave where one of them is private, and else what it was handed
abbrev pub final_between : ReducedView → List SummaryEntry → BoundsView → ℕ → ℕ → Option ℤ
final_between r finals b i j = if is_private_in r.local i || is_private_in r.local j then bound_between b i j else entry_in finals i j

-- the same, and 0 from a point to itself
abbrev pub rest_between : ReducedView → List SummaryEntry → BoundsView → ℕ → ℕ → Option ℤ
rest_between r finals b i j = if i == j then Some (pos 0) else final_between r finals b i j

-- i comes before j and m in the order, and the bound from i to j is the forward weight from i to m and the final bound on from there
pub record Leaves (r : ReducedView) (finals : List SummaryEntry) (b : BoundsView) (i j m : ℕ) : Type 0 where
  pub first : ComesBefore r.order i j
  pub later : ComesBefore r.order i m
  pub weight : ℤ
  pub forward : IsForwardWeight r i m weight
  pub rest : ℤ
  pub onward : rest_between r finals b m j ≡ Some rest
  pub sum : bound_between b i j ≡ Some (weight +ℤ rest)

-- j comes before i and m in the order, and the bound from i to j is the final bound from i to m and the forward weight on from there
pub record Arrives (r : ReducedView) (finals : List SummaryEntry) (b : BoundsView) (i j m : ℕ) : Type 0 where
  pub first : ComesBefore r.order j i
  pub later : ComesBefore r.order j m
  pub weight : ℤ
  pub forward : IsForwardWeight r m j weight
  pub rest : ℤ
  pub onward : rest_between r finals b i m ≡ Some rest
  pub sum : bound_between b i j ≡ Some (rest +ℤ weight)

-- the bound from i to j came through a point, by the revisit of the one of them that comes first
abbrev pub CameThrough : ReducedView → List SummaryEntry → BoundsView → ℕ → ℕ → Type 0
CameThrough r finals b i j = (m : ℕ) × (through_between b i j ≡ Some m) × (Leaves r finals b i j m ⊎ Arrives r finals b i j m)
