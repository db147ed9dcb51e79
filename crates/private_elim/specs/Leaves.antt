-- The arcs that the leaves of a walk are: is_given, given_in, numbers_of.
use Rattle.std.specs.Prelude.{ℕ, List, map, Bool, true, false}
use Rattle.dist_rows.specs.declared.cell.Via.{Via}
use Rattle.dist_rows.specs.declared.cell.Via.TheVariants.{Given, Published, Through}
use Rattle.elim_step.specs.declared.leaves.Leaf.{Leaf}

-- whether a weight is the bound of an arc
abbrev pub is_given : Via → Bool
is_given (Given n) = true
is_given (Published a) = false
is_given (Through k) = false

-- the number of that arc
abbrev pub given_in : Via → ℕ
given_in (Given n) = n
given_in (Published a) = 0
given_in (Through k) = 0

-- the numbers of the arcs that leaves are
abbrev pub numbers_of : List Leaf → List ℕ
numbers_of leaves = map (λ (l : Leaf). given_in l.via) leaves
