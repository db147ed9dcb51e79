-- What one elimination means among the places of a list.
--   eliminated_among    the cells after k is eliminated
--   StepAmong           the answer, with the cells before and after
--   HasNeighbours       the list has all remaining neighbours of k, and only places that remain
use Rattle.std.specs.Prelude.{◌≡◌, ℕ, ◌<◌, List, Bool, true, false, ◌&&◌, not, ◌==◌, Option, if◌then◌else◌}
use Rattle.dist_rows.specs.declared.cell.Cell.{Cell}
use Rattle.stn_walk.specs.Eliminations.{is_in}
use Rattle.elim_step.specs.Eliminates.{sum_through, lesser_of, is_negative, is_neighbour, remains}
use Rattle.elim_step.specs.declared.step.Found.{Found}
use Rattle.elim_step.specs.declared.step.Found.TheVariants.{Clear, Negative}

-- the cells after k is eliminated: each pair of different places of the list has the lesser of its cell and of the sum through k, where that is there
abbrev pub eliminated_among : List ℕ → ℕ → (ℕ → ℕ → Option Cell) → ℕ → ℕ → Option Cell
eliminated_among list k f p q =
    if (is_in list p && is_in list q) && not (p == q) then lesser_of (f p q) (sum_through k (f p k) (f k q)) else f p q

-- the answer, with the cells f before and g after: Clear where no place of the list sums below 0 with k, and else the least such place
abbrev pub StepAmong : List ℕ → ℕ → (ℕ → ℕ → Option Cell) → (ℕ → ℕ → Option Cell) → Found → Type 0
StepAmong list k f g Clear =
    ((m : ℕ) → is_in list m ≡ true → is_negative (f k m) (f m k) ≡ false) × ((p q : ℕ) → g p q ≡ eliminated_among list k f p q)
StepAmong list k f g (Negative i) =
    (is_in list i ≡ true) × (is_negative (f k i) (f i k) ≡ true)
    × ((m : ℕ) → m < i → is_in list m ≡ true → is_negative (f k m) (f m k) ≡ false) × ((p q : ℕ) → g p q ≡ f p q)

-- the list has only places that remain, and all remaining neighbours of k
pub record HasNeighbours (remain : List Bool) (f : ℕ → ℕ → Option Cell) (k : ℕ) (list : List ℕ) : Type 0 where
  pub only : (p : ℕ) → is_in list p ≡ true → remains remain p ≡ true
  pub all : (p : ℕ) → is_neighbour remain f k p ≡ true → is_in list p ≡ true
