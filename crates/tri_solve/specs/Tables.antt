-- A pass as a loop over a table that holds the numbers of the start at first: put, IsTable.
use Rattle.std.specs.Prelude.{◌≡◌, ℕ, Bool, ℤ, ◌==◌, List, Option, if◌then◌else◌, Contains}
use Rattle.tri_solve.specs.Passes.{pass}

-- the table with another number at k
abbrev pub put : ℕ → Option ℤ → (ℕ → Option ℤ) → ℕ → Option ℤ
put k v f p = if p == k then v else f p

-- the listed points are set, and the others are as at the start
pub record IsTable (joined : ℕ → ℕ → Bool) (bound : ℕ → ℕ → ℤ) (start : ℕ → Option ℤ) (xs : List ℕ) (table : ℕ → Option ℤ) : Type 0 where
  pub set : (p : ℕ) → Contains xs p → table p ≡ pass joined bound start xs p
  pub unset : (p : ℕ) → (Contains xs p → ⊥) → table p ≡ start p
