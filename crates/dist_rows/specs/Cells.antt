-- What rows of cells mean: which cell is written, which stay, and who are neighbours. A map of cells is a function of pairs.
use Rattle.std.specs.Prelude.{ℕ, ◌<◌, ◌≤◌, ◌^◌, ℤ, pos, ◌+ℤ◌, List, [], ◌∷◌, slice_index_or, length, nat_abs, int_lt, Bool, true, ◌&&◌, ◌||◌, not, ◌==◌}
use Rattle.std.specs.Prelude.{Option, Some, None, is_some, nat_le, if◌then◌else◌, IfSome}
use Rattle.dist_rows.specs.declared.cell.Cell.{Cell}
use Rattle.dist_rows.specs.declared.cell.Offer.{Offer}
use Rattle.dist_rows.specs.declared.cell.Via.TheVariants.{Through}

-- whether a new cell is written over an old one: there is none, or its weight is strictly greater
abbrev pub is_lower : Option Cell → Cell → Bool
is_lower None cell = true
is_lower (Some old) cell = int_lt cell.weight old.weight

-- the lesser of an old cell and a new one. The old one stays where their weights are equal
abbrev pub lesser : Option Cell → Cell → Option Cell
lesser None cell = Some cell
lesser (Some old) cell = if int_lt cell.weight old.weight then Some cell else Some old

-- the cells after that of (i, j) is lowered
abbrev pub lowered : ℕ → ℕ → Cell → (ℕ → ℕ → Option Cell) → ℕ → ℕ → Option Cell
lowered i j cell f p q = if (p == i) && (q == j) then lesser (f i j) cell else f p q

-- whether there is a cell between two places in either direction
abbrev pub are_neighbours : (ℕ → ℕ → Option Cell) → ℕ → ℕ → Bool
are_neighbours f i j = is_some (f i j) || is_some (f j i)

-- above an optional place
abbrev pub IsAbove : ℕ → Option ℕ → Type 0
IsAbove n None = Unit {0}
IsAbove n (Some m) = m < n

-- a weight of magnitude at most 2 ^ n
abbrev pub IsLight : ℕ → ℤ → Type 0
IsLight n z = nat_abs z ≤ 2 ^ n

-- the same of a cell as a test, at 2 ^ 100
abbrev pub is_light : Option Cell → Bool
is_light None = true
is_light (Some c) = nat_le (nat_abs c.weight) (2 ^ 100)

-- all cells have weights of magnitude at most 2 ^ n
abbrev pub AllLight : ℕ → (ℕ → ℕ → Option Cell) → Type 0
AllLight n f = (p q : ℕ) → IfSome (f p q) (λ c. IsLight n c.weight)

-- the cell of a sum through k: a weight up to k and an offered one from there on
abbrev pub cell_through : ℕ → ℤ → Offer → Cell
cell_through k by o = record { weight = by +ℤ o.weight; via = Through k }

-- the offer to a place
abbrev pub offer_to : List Offer → ℕ → Option Offer
offer_to [] q = None
offer_to (o ∷ os) q = if o.place == q then Some o else offer_to os q

-- the cell after it is lowered to the sum of an offer, where there is one
abbrev pub after_offer : ℕ → ℤ → Option Offer → Option Cell → Option Cell
after_offer k by None old = old
after_offer k by (Some o) old = lesser old (cell_through k by o)

-- the cells after those of the row of i are lowered to the sums of offers. An offer to i itself changes nothing
abbrev pub row_lowered : ℕ → ℕ → ℤ → List Offer → (ℕ → ℕ → Option Cell) → ℕ → ℕ → Option Cell
row_lowered i k by os f p q = if (p == i) && not (q == i) then after_offer k by (offer_to os q) (f p q) else f p q

abbrev pub no_offer : Offer
no_offer = record { weight = pos 0; place = 0 }

-- the offer of a number, and its place
abbrev pub offer_at : List Offer → ℕ → Offer
offer_at os m = slice_index_or os m no_offer

-- the places rise
abbrev pub AreRising : List Offer → Type 0
AreRising os = (m n : ℕ) → m < n → n < length os → (offer_at os m).place < (offer_at os n).place

-- the weight that stands where there is no cell, above those of all cells
abbrev pub far : ℤ
far = pos (2 ^ 120)

-- the weight of a cell, where there is one
abbrev pub weight_in : Option Cell → ℤ
weight_in None = far
weight_in (Some c) = c.weight
