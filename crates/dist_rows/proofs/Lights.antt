-- Rows of light cells stay light.
use Rattle.std.proofs.Common.{◌≡◌, ℕ, true, false, ◌&&◌, Option, Some, None, sym, subst}
use Rattle.std.specs.Prelude.{◌==◌, if◌then◌else◌, int_lt, IfSome}
use Rattle.dist_rows.specs.declared.cell.Cell.{Cell}
use Rattle.dist_rows.specs.Cells.{lesser, lowered, IsLight, AllLight}

lesser_light : (n : ℕ) (old : Option Cell) (cell : Cell) → IfSome old (λ c. IsLight n c.weight) → IsLight n cell.weight
    → IfSome (lesser old cell) (λ c. IsLight n c.weight)
lesser_light n None cell h light = light
lesser_light n (Some o) cell h light =
    elim (int_lt cell.weight o.weight) as (λ b. IfSome (if b then Some cell else Some o) (λ c. IsLight n c.weight)) [ true ↦ light | false ↦ h ]

-- the cells after a light one is lowered
pub lowered_light : (n i j : ℕ) (cell : Cell) (f g : ℕ → ℕ → Option Cell) → AllLight n f → IsLight n cell.weight
    → ((p q : ℕ) → g p q ≡ lowered i j cell f p q) → AllLight n g
lowered_light n i j cell f g all light is p q =
    let R : Option Cell → Type 0 = λ o. IfSome o (λ c. IsLight n c.weight) in
    subst R (sym (is p q)) (elim ((p == i) && (q == j)) as
    (λ b. R (if b then lesser (f i j) cell else f p q)) [ true ↦ lesser_light n (f i j) cell (all i j) light | false ↦ all p q ])

-- without a cell all are light
pub none_light : (n : ℕ) (f : ℕ → ℕ → Option Cell) → ((p q : ℕ) → f p q ≡ None) → AllLight n f
none_light n f none p q = (let R : Option Cell → Type 0 = λ o. IfSome o (λ c. IsLight n c.weight) in subst R (sym (none p q)) tt)
