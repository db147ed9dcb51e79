-- Walks in the distance graph (Dechter, Meiri and Pearl 1991): lists of arc numbers, each arc beginning where the one before it ends:
-- IsWalk, weight, end_of, heads, AllDifferent, PassesNoPointTwice, IsNegativeCycle, IsNormal, IsNegativeClosed.
use Rattle.std.specs.Prelude.{◌≡◌, ◌≢◌, ℕ, ◌<◌, ◌≤◌, ℤ, pos, ◌+ℤ◌, ◌<ℤ◌, List, [], ◌∷◌, map, length, ⊤}
use Rattle.std.specs.List.{AllByRecursion}
use Rattle.stn_model.specs.declared.ids.Constraint.{Constraint}
use Rattle.stn_model.specs.Arcs.{from_at, to_at, bound_at}

-- a walk from i to j; the empty list is one from each point to itself
abbrev pub IsWalk : List Constraint → ℕ → ℕ → List ℕ → Type 0
IsWalk arcs i j [] = i ≡ j
IsWalk arcs i j (n ∷ ns) = (n < length arcs) × (from_at arcs n ≡ i) × IsWalk arcs (to_at arcs n) j ns

-- the sum of the bounds
abbrev pub weight : List Constraint → List ℕ → ℤ
weight arcs [] = pos 0
weight arcs (n ∷ ns) = bound_at arcs n +ℤ weight arcs ns

-- where the walk from i ends
abbrev pub end_of : List Constraint → ℕ → List ℕ → ℕ
end_of arcs i [] = i
end_of arcs i (n ∷ ns) = end_of arcs (to_at arcs n) ns

-- the points that the arcs end at
abbrev pub heads : List Constraint → List ℕ → List ℕ
heads arcs ns = map (to_at arcs) ns

-- no number stands twice in the list
abbrev pub AllDifferent : List ℕ → Type 0
AllDifferent [] = ⊤
AllDifferent (x ∷ xs) = AllByRecursion (λ y. x ≢ y) xs × AllDifferent xs

-- the walk from i to j has no point twice; where it is closed, its one end counts once
pub record PassesNoPointTwice (arcs : List Constraint) (i j : ℕ) (ns : List ℕ) : Type 0 where
  pub ends_apart : i ≢ j → AllDifferent (i ∷ heads arcs ns)
  pub ends_meet : i ≡ j → AllDifferent (heads arcs ns)

-- a closed walk that has no point twice and sums below 0; so it is not empty
pub record IsNegativeCycle (arcs : List Constraint) (ns : List ℕ) : Type 0 where
  pub start : ℕ
  pub walk : IsWalk arcs start start ns
  pub simple : AllDifferent (heads arcs ns)
  pub negative : weight arcs ns <ℤ pos 0

-- the first number is the least
abbrev pub IsNormal : List ℕ → Type 0
IsNormal [] = ⊤
IsNormal (n ∷ ns) = AllByRecursion (λ m. n ≤ m) ns

-- a closed walk that sums below 0
pub record IsNegativeClosed (arcs : List Constraint) (ns : List ℕ) : Type 0 where
  pub start : ℕ
  pub walk : IsWalk arcs start start ns
  pub negative : weight arcs ns <ℤ pos 0
