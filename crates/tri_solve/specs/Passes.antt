-- Two passes over an order (directional relaxation: Dechter, Meiri and Pearl 1991; chordal graphs: Planken, de Weerdt and van der Krogt 2012), as
-- tables of numbers: IsLight, least_over, by_way_of, pass, at_source, risen, distance.
use Rattle.std.specs.Prelude.{ℕ, Bool, ℤ, pos, neg_ℤ, ◌≤ℤ◌, ◌==◌, List, [], ◌∷◌, reverse, Option, Some, None, if◌then◌else◌}
use Rattle.stn_walk.specs.Eliminations.{lesser, sum_of}

-- a number of magnitude at most m
abbrev pub IsLight : ℕ → ℤ → Type 0
IsLight m z = (neg_ℤ (pos m) ≤ℤ z) × (z ≤ℤ pos m)

-- the least of the numbers that are there
abbrev pub least_over : (ℕ → Option ℤ) → List ℕ → Option ℤ
least_over f [] = None
least_over f (q ∷ qs) = lesser (f q) (least_over f qs)

-- the number of q and the bound from q to p, where the two are joined and q has a number
abbrev pub by_way_of : (ℕ → ℕ → Bool) → (ℕ → ℕ → ℤ) → (ℕ → Option ℤ) → ℕ → ℕ → Option ℤ
by_way_of joined bound number p q = if joined q p then sum_of (number q) (Some (bound q p)) else None

-- a pass sets the points from the last of the list to the first, each to the least of its number at the start and of those by way of the points behind it
abbrev pub pass : (ℕ → ℕ → Bool) → (ℕ → ℕ → ℤ) → (ℕ → Option ℤ) → List ℕ → ℕ → Option ℤ
pass joined bound start [] p = None
pass joined bound start (x ∷ xs) p =
    if p == x then lesser (start x) (least_over (by_way_of joined bound (pass joined bound start xs) x) xs) else pass joined bound start xs p

-- 0 at the source, and no other number
abbrev pub at_source : ℕ → ℕ → Option ℤ
at_source i p = if p == i then Some (pos 0) else None

-- the pass up: from the first point of the order to the last; it gives numbers to the source and to its ancestors
abbrev pub risen : (ℕ → ℕ → Bool) → (ℕ → ℕ → ℤ) → List ℕ → ℕ → ℕ → Option ℤ
risen joined bound order i = pass joined bound (at_source i) (reverse order)

-- the pass down: from the last point of the order to the first, ancestors too
abbrev pub distance : (ℕ → ℕ → Bool) → (ℕ → ℕ → ℤ) → List ℕ → ℕ → ℕ → Option ℤ
distance joined bound order i = pass joined bound (risen joined bound order i) order
