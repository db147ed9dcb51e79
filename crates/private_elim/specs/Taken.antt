-- A local problem of which some private points are taken, and what is left of it: TakenView, IsTaken, HasTaken, Fails, StopsAt, NoneFails.
-- `order` is the points taken, in their order; `taken` is the same with the last one first.
use Rattle.std.specs.Prelude.{◌≡◌, ◌≢◌, ℕ, ℤ, ◌<◌, pos, ◌+ℤ◌, ◌<ℤ◌, List, [], ◌∷◌, Bool, true, false, Option, Some, length, reverse, ⊤}
use Rattle.std.specs.List.{AllByRecursion}
use Rattle.stn_model.specs.Walks.{AllDifferent}
use Rattle.stn_model.specs.ArcWalks.{NoNegative}
use Rattle.stn_model.specs.Inner.{IsInnerWeight}
use Rattle.stn_walk.specs.Eliminations.{is_in, before_both}
use Rattle.stn_walk.specs.Joins.{joined_of}
use Rattle.dist_rows.specs.declared.cell.Cell.{Cell}
use Rattle.elim_step.specs.Eliminated.{IsEliminated, point_at}
use Rattle.private_elim.specs.Locals.{LocalView, IsLocal, arcs_in, all_numbered, is_private_in, is_point_of}
use Rattle.elim_step.specs.Origins.{IsArcLeaf, HasOrigins}

-- a local problem, and the private points that are taken, in their order
pub record TakenView : Type 0 where
  pub local : LocalView
  pub order : List ℕ

-- what the cells, the joined places and the places that remain are, once these points are taken
pub record IsTaken (v : LocalView) (order : List ℕ) (at : ℕ → ℕ → Option Cell) (joined : ℕ → ℕ → Bool) (remain : List Bool) : Type 0 where
  pub known : IsLocal v
  pub numbered : all_numbered v.arcs ≡ true
  pub private : AllByRecursion (λ p. is_private_in v p ≡ true) order
  pub once : AllDifferent order
  pub cells : IsEliminated v.points (arcs_in v) (reverse order) at remain
  pub origins : HasOrigins (IsArcLeaf v.points (arcs_in v)) v.points (reverse order) at
  pub joins : (i j : ℕ) → i < length v.points → j < length v.points → i ≢ j
      → joined i j ≡ joined_of (arcs_in v) (before_both (reverse order) (point_at v.points i) (point_at v.points j)) (point_at v.points i)
      (point_at v.points j)
  pub alone : (i : ℕ) → joined i i ≡ false

-- what is known of it without its cells
pub record HasTaken (t : TakenView) : Type 0 where
  pub known : IsLocal t.local
  pub numbered : all_numbered t.local.arcs ≡ true
  pub private : AllByRecursion (λ p. is_private_in t.local p ≡ true) t.order
  pub once : AllDifferent t.order
  pub none_below : NoNegative (is_in (reverse t.order)) (arcs_in t.local)

-- another point that is not taken has two weights with p, through taken points, that sum below 0
pub record Fails (v : LocalView) (taken : List ℕ) (p q : ℕ) : Type 0 where
  pub point : is_point_of v q ≡ true
  pub other : q ≢ p
  pub left : is_in taken q ≡ false
  pub out : ℤ
  pub back : ℤ
  pub is_out : IsInnerWeight (is_in taken) (arcs_in v) p q (Some out)
  pub is_back : IsInnerWeight (is_in taken) (arcs_in v) q p (Some back)
  pub below : (out +ℤ back) <ℤ pos 0

-- no point failed when it was taken
abbrev pub NoneFails : LocalView → List ℕ → Type 0
NoneFails v [] = ⊤
NoneFails v (p ∷ taken) = ((q : ℕ) → Fails v taken p q → ⊥) × NoneFails v taken

-- p is the first point to fail, after these were taken, and `other` is the least with which it does
pub record StopsAt (v : LocalView) (taken : List ℕ) (p other : ℕ) : Type 0 where
  pub fails : Fails v taken p other
  pub least : (q : ℕ) → q < other → Fails v taken p q → ⊥
  pub before : NoneFails v taken
