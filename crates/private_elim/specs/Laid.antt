-- The cells and joined places of some arcs alone: IsLaidArc, IsLaid.
use Rattle.std.specs.Prelude.{◌≡◌, ◌≢◌, ℕ, ◌<◌, Bool, ◌&&◌, ◌||◌, ◌==◌, not, Option, Some, [], length, take}
use Rattle.stn_walk.specs.Eliminations.{bound_of}
use Rattle.stn_walk.specs.Joins.{has_edge}
use Rattle.dist_rows.specs.declared.cell.Cell.{Cell}
use Rattle.dist_rows.specs.declared.cell.Via.TheVariants.{Given}
use Rattle.dist_rows.specs.Cells.{lowered}
use Rattle.elim_step.specs.Eliminated.{weight_at, point_at}
use Rattle.private_elim.specs.Locals.{LocalView, arcs_in, local_arc_at, place_in}
use Rattle.elim_step.specs.Origins.{IsArcLeaf, HasOrigins}

-- what the arc of this number changes: it may lower the cell of its ends, and joins them
pub record IsLaidArc (v : LocalView) (k : ℕ) (at after : ℕ → ℕ → Option Cell) (joined joined' : ℕ → ℕ → Bool) : Type 0 where
  pub start : ℕ
  pub end : ℕ
  pub is_start : place_in v.points (local_arc_at v.arcs k).arc.from.0 ≡ Some start
  pub is_end : place_in v.points (local_arc_at v.arcs k).arc.to.0 ≡ Some end
  pub cells : (p q : ℕ) → after p q ≡ lowered start end (record { weight = (local_arc_at v.arcs k).arc.bound; via = Given k }) at p q
  pub joins : (p q : ℕ) → joined' p q ≡ (joined p q || (not (p == q) && (((p == start) && (q == end)) || ((p == end) && (q == start)))))

-- the cells are the least bounds of the first n arcs, with the number of an arc that has it, and their ends are joined
pub record IsLaid (v : LocalView) (n : ℕ) (at : ℕ → ℕ → Option Cell) (joined : ℕ → ℕ → Bool) : Type 0 where
  pub cells : (i j : ℕ) → i < length v.points → j < length v.points → i ≢ j
      → weight_at (at i j) ≡ bound_of (take n (arcs_in v)) (point_at v.points i) (point_at v.points j)
  pub joins : (i j : ℕ) → i < length v.points → j < length v.points → i ≢ j
      → joined i j ≡ has_edge (take n (arcs_in v)) (point_at v.points i) (point_at v.points j)
  pub origins : HasOrigins (IsArcLeaf v.points (arcs_in v)) v.points [] at
