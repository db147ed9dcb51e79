-- Walks cut at a point that they pass twice, and what is found in a walk: ClosedPart, FoundCycle, FoundArcCycle, PrunedWalk, AreWithin.
use Rattle.std.specs.Prelude.{◌≡◌, ℕ, ◌<◌, ◌+ℤ◌, ◌≤ℤ◌, List, ◌++◌, length}
use Rattle.std.specs.List.{All, Contains}
use Rattle.stn_model.specs.declared.ids.Constraint.{Constraint}
use Rattle.stn_model.specs.Arcs.{arc_at}
use Rattle.stn_model.specs.Valid.{IsArcWithin}
use Rattle.stn_model.specs.Walks.{IsWalk, weight, PassesNoPointTwice, IsNegativeCycle, IsNormal}
use Rattle.stn_walk.specs.Parts.{NoPartIsNegative}

-- a walk from i to j in three parts: the middle one is closed, and without it a walk from i to j is left; neither is empty, and their weights add
pub record ClosedPart (list : List Constraint) (i j : ℕ) (ns : List ℕ) : Type 0 where
  pub front : List ℕ
  pub part : List ℕ
  pub back : List ℕ
  pub at : ℕ
  pub whole : ns ≡ front ++ part ++ back
  pub closed : IsWalk list at at part
  pub rest : IsWalk list i j (front ++ back)
  pub part_goes : 0 < length part
  pub rest_goes : 0 < length (front ++ back)
  pub part_of : All (Contains ns) part
  pub rest_of : All (Contains ns) (front ++ back)
  pub weights : weight list ns ≡ weight list part +ℤ weight list (front ++ back)

-- a negative cycle in normal form, of arcs of the walk
pub record FoundCycle (list : List Constraint) (ns : List ℕ) : Type 0 where
  pub cycle : List ℕ
  pub negative : IsNegativeCycle list cycle
  pub normal : IsNormal cycle
  pub part : All (Contains ns) cycle

-- the same of a walk that is a list of arcs
pub record FoundArcCycle (list w : List Constraint) : Type 0 where
  pub cycle : List ℕ
  pub negative : IsNegativeCycle list cycle
  pub normal : IsNormal cycle
  pub part : All (λ n. Contains w (arc_at list n)) cycle

-- a walk between the same points that passes no point twice, of arcs of the walk, and no heavier where none of its closed parts is negative
pub record PrunedWalk (list : List Constraint) (i j : ℕ) (ns : List ℕ) : Type 0 where
  pub left : List ℕ
  pub walk : IsWalk list i j left
  pub simple : PassesNoPointTwice list i j left
  pub part : All (Contains ns) left
  pub light : NoPartIsNegative list ns → weight list left ≤ℤ weight list ns

-- every arc joins two of the first points, and its bound is within the limits
abbrev pub AreWithin : ℕ → List Constraint → Type 0
AreWithin points list = (n : ℕ) → n < length list → IsArcWithin points (arc_at list n)
