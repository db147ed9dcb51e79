-- Where the weights of cells come from: rank_in, rank_of, IsArcOf, IsArcLeaf, IsSumOf, is_leaf, IsFrom, HasOrigins. The eliminated points are
-- listed with the last one first. What a weight that is no sum comes from is a parameter, `leaf`: it says it of a pair, its cell and the via.
use Rattle.std.specs.Prelude.{◌≡◌, ℕ, suc, ◌<◌, ◌+ℤ◌, List, [], ◌∷◌, Bool, true, false, Option, Some, length, ◌==◌, if◌then◌else◌, IfSome}
use Rattle.stn_model.specs.declared.ids.Constraint.{Constraint}
use Rattle.stn_model.specs.Arcs.{from_at, to_at, bound_at}
use Rattle.stn_walk.specs.Eliminations.{is_in}
use Rattle.dist_rows.specs.declared.cell.Cell.{Cell}
use Rattle.dist_rows.specs.declared.cell.Via.{Via}
use Rattle.dist_rows.specs.declared.cell.Via.TheVariants.{Given, Published, Through}
use Rattle.elim_step.specs.Eliminated.{point_at}

-- how many points were eliminated up to this one, and 0 for a point that was not
abbrev pub rank_in : List ℕ → ℕ → ℕ
rank_in [] p = 0
rank_in (k ∷ es) p = if p == k then suc (length es) else rank_in es p

-- how many points were eliminated before a weight came to be
abbrev pub rank_of : List ℕ → List ℕ → Via → ℕ
rank_of points es (Given n) = 0
rank_of points es (Published a) = 0
rank_of points es (Through k) = rank_in es (point_at points k)

-- the weight is the bound of the arc of this number in the list, which joins the two places
pub record IsArcOf (points : List ℕ) (arcs : List Constraint) (p q : ℕ) (c : Cell) (n : ℕ) : Type 0 where
  pub within : n < length arcs
  pub starts : from_at arcs n ≡ point_at points p
  pub ends : to_at arcs n ≡ point_at points q
  pub weighs : bound_at arcs n ≡ c.weight

-- the leaves where all weights come from arcs of one list
abbrev pub IsArcLeaf : List ℕ → List Constraint → ℕ → ℕ → Cell → Via → Type 0
IsArcLeaf points arcs p q c (Given n) = IsArcOf points arcs p q c n
IsArcLeaf points arcs p q c (Published a) = ⊥
IsArcLeaf points arcs p q c (Through k) = ⊥

-- the weight is the sum of two cells through an eliminated place, each of which came to be before that place was eliminated
pub record IsSumOf (points es : List ℕ) (at : ℕ → ℕ → Option Cell) (p q : ℕ) (c : Cell) (k : ℕ) : Type 0 where
  pub within : k < length points
  pub eliminated : is_in es (point_at points k) ≡ true
  pub front : Cell
  pub back : Cell
  pub is_front : at p k ≡ Some front
  pub is_back : at k q ≡ Some back
  pub weighs : front.weight +ℤ back.weight ≡ c.weight
  pub front_before : rank_of points es front.via < rank_in es (point_at points k)
  pub back_before : rank_of points es back.via < rank_in es (point_at points k)

-- whether a weight is no sum
abbrev pub is_leaf : Via → Bool
is_leaf (Given n) = true
is_leaf (Published a) = true
is_leaf (Through k) = false

-- where the weight of a cell comes from: it is a leaf, or a sum
abbrev pub IsFrom : (ℕ → ℕ → Cell → Via → Type 0) → List ℕ → List ℕ → (ℕ → ℕ → Option Cell) → ℕ → ℕ → Cell → Via → Type 0
IsFrom leaf points es at p q c (Given n) = leaf p q c (Given n)
IsFrom leaf points es at p q c (Published a) = leaf p q c (Published a)
IsFrom leaf points es at p q c (Through k) = IsSumOf points es at p q c k

-- each cell has its origin
abbrev pub HasOrigins : (ℕ → ℕ → Cell → Via → Type 0) → List ℕ → List ℕ → (ℕ → ℕ → Option Cell) → Type 0
HasOrigins leaf points es at = (p q : ℕ) → IfSome (at p q) (λ c. IsFrom leaf points es at p q c c.via)
