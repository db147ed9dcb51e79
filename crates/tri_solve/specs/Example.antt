-- An order 1, 2, 3, z in which point 3 comes after 1 and its distance from 1 leads over z: from_to, arcs, joined, bound, UpAloneIsTooHigh.
use Rattle.std.specs.Prelude.{◌≡◌, ℕ, Bool, List, [], ◌∷◌, Some, ℤ, pos, ◌==◌, ◌&&◌, not}
use Rattle.std.specs.Option.{unwrap_or}
use Rattle.stn_model.specs.declared.ids.Constraint.{Constraint}
use Rattle.stn_walk.specs.Eliminations.{cell_of}
use Rattle.tri_solve.specs.Passes.{risen, distance}

abbrev pub from_to : ℕ → ℕ → ℤ → Constraint
from_to p q b = record { from = record { 0 = p }; to = record { 0 = q }; bound = b }

abbrev pub arcs : List Constraint
arcs =
    from_to 1 0 (pos 1) ∷ from_to 0 3 (pos 1) ∷ from_to 0 1 (pos 100) ∷ from_to 3 0 (pos 100) ∷ from_to 0 2 (pos 100) ∷ from_to 2 0 (pos 100)
    ∷ from_to 1 2 (pos 1000) ∷ from_to 2 3 (pos 1000) ∷ []

-- all points but 1 and 3 are joined
abbrev pub joined : ℕ → ℕ → Bool
joined p q = not (p == q) && not ((p == 1) && (q == 3)) && not ((p == 3) && (q == 1))

-- the least weights of all walks
abbrev pub bound : ℕ → ℕ → ℤ
bound p q = unwrap_or (cell_of arcs (0 ∷ 1 ∷ 2 ∷ 3 ∷ []) p q) (pos 0)

-- the walk from 1 up to z and then down to 3 weighs 2, and the pass up alone gives 202
abbrev pub UpAloneIsTooHigh : Type 0
UpAloneIsTooHigh = (risen joined bound (1 ∷ 2 ∷ 3 ∷ 0 ∷ []) 1 3 ≡ Some (pos 202)) × (distance joined bound (1 ∷ 2 ∷ 3 ∷ 0 ∷ []) 1 3 ≡ Some (pos 2))
