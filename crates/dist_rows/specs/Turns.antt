-- Offers and room taken in turn, as loops over a row take them.
use Rattle.std.specs.Prelude.{ℕ, ℤ, List, [], ◌∷◌, Bool, ◌&&◌, ◌||◌, ◌==◌, Option, if◌then◌else◌}
use Rattle.dist_rows.specs.declared.cell.Cell.{Cell}
use Rattle.dist_rows.specs.declared.cell.Offer.{Offer}
use Rattle.dist_rows.specs.Cells.{lowered, cell_through}

-- the cells after that of (i, the offer's place) is lowered to the sum; an offer to i itself changes nothing
abbrev pub offered : ℕ → ℕ → ℤ → Offer → (ℕ → ℕ → Option Cell) → ℕ → ℕ → Option Cell
offered i k by o f p q = if o.place == i then f p q else lowered i o.place (cell_through k by o) f p q

-- the cells after all offers in turn
abbrev pub all_offered : ℕ → ℕ → ℤ → List Offer → (ℕ → ℕ → Option Cell) → ℕ → ℕ → Option Cell
all_offered i k by [] f p q = f p q
all_offered i k by (o ∷ os) f p q = all_offered i k by os (offered i k by o f) p q

-- the room after that of a pair is made, of the pairs of i with each place of a list, and of all pairs of two lists
abbrev pub roomed : ℕ → ℕ → (ℕ → ℕ → Bool) → ℕ → ℕ → Bool
roomed i j f p q = if j == i then f p q else (((p == i) && (q == j)) || f p q)

abbrev pub row_roomed : ℕ → List ℕ → (ℕ → ℕ → Bool) → ℕ → ℕ → Bool
row_roomed i [] f p q = f p q
row_roomed i (j ∷ js) f p q = row_roomed i js (roomed i j f) p q

abbrev pub all_roomed : List ℕ → List ℕ → (ℕ → ℕ → Bool) → ℕ → ℕ → Bool
all_roomed [] list f p q = f p q
all_roomed (i ∷ is) list f p q = all_roomed is list (row_roomed i list f) p q
