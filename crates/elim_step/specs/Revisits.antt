-- One revisit: the final cells between a place k and its later places.
--   out_sum, in_sum   the sum from k through m to j, and from j through m to k
--   IsLeastSum        the least of such sums over the later places
--   Revisits          what a revisit changes; the words ending in `after` and `lowered` say it of its parts
use Rattle.std.specs.Prelude.{◌≡◌, ℕ, pos, ◌≤ℤ◌, List, [], ◌∷◌, Bool, true, false, ◌&&◌, not, ◌==◌, Option, Some, None, IfSome, if◌then◌else◌}
use Rattle.dist_rows.specs.declared.cell.Cell.{Cell}
use Rattle.dist_rows.specs.declared.cell.Via.TheVariants.{Given}
use Rattle.elim_step.specs.Eliminates.{lesser_of, sum_through}
use Rattle.stn_walk.specs.Eliminations.{is_in}

-- the cell between two places, which is 0 from a place to itself
abbrev pub reach_to : ℕ → ℕ → Option Cell → Option Cell
reach_to m j cell = if m == j then Some (record { weight = pos 0; via = Given 0 }) else cell

abbrev pub reach_of : (ℕ → ℕ → Option Cell) → ℕ → ℕ → Option Cell
reach_of f m j = reach_to m j (f m j)

-- from k by m to j, and from j by m to k
abbrev pub out_sum : (ℕ → ℕ → Option Cell) → (ℕ → ℕ → Option Cell) → ℕ → ℕ → ℕ → Option Cell
out_sum forward finals k j m = sum_through m (forward k m) (reach_of finals m j)

abbrev pub in_sum : (ℕ → ℕ → Option Cell) → (ℕ → ℕ → Option Cell) → ℕ → ℕ → ℕ → Option Cell
in_sum forward finals k j m = sum_through m (reach_of finals j m) (forward m k)

-- the least of a cell and of these sums, the first one where they are equal
abbrev pub least_over : (ℕ → Option Cell) → Option Cell → List ℕ → Option Cell
least_over sum old [] = old
least_over sum old (m ∷ ms) = least_over sum (lesser_of old (sum m)) ms

-- the cells after one is lowered to a sum
abbrev pub sum_lowered : ℕ → ℕ → Option Cell → (ℕ → ℕ → Option Cell) → ℕ → ℕ → Option Cell
sum_lowered i j sum f p q = if (p == i) && (q == j) then lesser_of (f p q) sum else f p q

-- the final cells after those between k and j are lowered through m
abbrev pub through_after : (ℕ → ℕ → Option Cell) → ℕ → ℕ → ℕ → (ℕ → ℕ → Option Cell) → ℕ → ℕ → Option Cell
through_after forward k j m f p q =
    if (p == k) && (q == j) then lesser_of (f p q) (out_sum forward f k j m)
    else (if (p == j) && (q == k) then lesser_of (f p q) (in_sum forward f k j m)
    else f p q)

-- the same through each of these places
abbrev pub place_after : (ℕ → ℕ → Option Cell) → ℕ → ℕ → List ℕ → (ℕ → ℕ → Option Cell) → ℕ → ℕ → Option Cell
place_after forward k j done f p q =
    if (p == k) && (q == j) then least_over (out_sum forward f k j) (f p q) done
    else (if (p == j) && (q == k) then least_over (in_sum forward f k j) (f p q) done
    else f p q)

-- the same between k and each of these places
abbrev pub places_after : (ℕ → ℕ → Option Cell) → ℕ → List ℕ → List ℕ → (ℕ → ℕ → Option Cell) → ℕ → ℕ → Option Cell
places_after forward k done later f p q =
    if (p == k) && is_in done q then least_over (out_sum forward f k q) (f p q) later
    else (if (q == k) && is_in done p then least_over (in_sum forward f k p) (f p q) later
    else f p q)

-- whether a list names no place twice
abbrev pub names_once : List ℕ → Bool
names_once [] = true
names_once (x ∷ xs) = not (is_in xs x) && names_once xs

-- the least weight of the sums that are there, where one is there
abbrev pub IsLeastSum : (ℕ → Option Cell) → List ℕ → Option Cell → Type 0
IsLeastSum sum later None = (m : ℕ) → is_in later m ≡ true → sum m ≡ None
IsLeastSum sum later (Some c) =
    ((m : ℕ) × (is_in later m ≡ true) × (sum m ≡ Some c)) × ((m : ℕ) → is_in later m ≡ true → IfSome (sum m) (λ s. c.weight ≤ℤ s.weight))

-- the final cells after a revisit: those between k and the later places are least sums, and no others change
pub record Revisits (forward : ℕ → ℕ → Option Cell) (k : ℕ) (later : List ℕ) (old new : ℕ → ℕ → Option Cell) : Type 0 where
  pub out : (j : ℕ) → is_in later j ≡ true → IsLeastSum (out_sum forward old k j) later (new k j)
  pub back : (j : ℕ) → is_in later j ≡ true → IsLeastSum (in_sum forward old k j) later (new j k)
  pub others : (p q : ℕ) → ((p == k) && is_in later q) ≡ false → ((q == k) && is_in later p) ≡ false → new p q ≡ old p q
