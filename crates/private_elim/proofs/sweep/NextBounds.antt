-- The points with which a point has bounds, one after another.
--   passed        what holds of the places before one, and of those from it on, holds of all
--   no_cell, one_more   a cell that is not there; one place more
--   row_none      where a place is no neighbour there is no cell
--   next_none, next_some, next_least   from places to points
use Rattle.std.proofs.Common.{◌≡◌, ℕ, ◌+◌, ◌-◌, ◌<◌, ◌≤◌, List, [], length, Bool, true, false, ◌||◌, Option, Some, None, refl, sym, ap, subst, ◌∙◌, arith}
use Rattle.std.proofs.Common.{⊎_elim}
use Rattle.std.specs.Prelude.{is_some, slice_index_or, if◌then◌else◌}
use Rattle.std.specs.Option.{SomeIff}
use Rattle.std.proofs.lemmas.Bool.{cases_lt, false≢true}
use Rattle.std.proofs.lemmas.List.{get_or_past}
use Rattle.dist_rows.specs.declared.cell.Cell.{Cell}
use Rattle.dist_rows.specs.Cells.{are_neighbours, IsAbove}
use Rattle.elim_step.specs.Eliminated.{weight_at, point_at}
use Rattle.private_elim.specs.Locals.{place_in}
use Rattle.private_elim.specs.Backs.{upto, BoundsView, private_cells, bounds_view, cell_in, bound_between}
use Rattle.private_elim.proofs.locals.Places.{Rises, place_found, place_of_point}
use Rattle.private_elim.proofs.sweep.Bounds.{upto-at, upto-length, cell_is}

-- the places above the one before a place are those from it on
pub above_from : (first : ℕ) (o : Option ℕ) → SomeIff o (1 ≤ first) (first - 1) → (m : ℕ) → first ≤ m → IsAbove m o
above_from first None h m le = tt
above_from first (Some k) h m le = let is = h.1 in let low = h.0 in omega arith

pub from_above : (first : ℕ) (o : Option ℕ) → SomeIff o (1 ≤ first) (first - 1) → (m : ℕ) → IsAbove m o → first ≤ m
from_above first None h m above =
    let none : 1 ≤ first → ⊥ = h in
    ⊎_elim (λ (low : 0 < first). absurd (none low)) (λ (high : first ≤ 0). omega arith) (cases_lt 0 first)
from_above first (Some k) h m above = let is = h.1 in let low = h.0 in omega arith

-- what holds of the places before one, and of those from it on, holds of all
pub passed : (P : ℕ → Type 0) (from first : ℕ) (o : Option ℕ) → SomeIff o (1 ≤ first) (first - 1) → ((m : ℕ) → from ≤ m → m < first → P m)
    → ((m : ℕ) → IsAbove m o → P m) → (m : ℕ) → from ≤ m → P m
passed P from first o h before onward m low =
    ⊎_elim (λ (less : m < first). before m low less) (λ (high : first ≤ m). onward m (above_from first o h m high)) (cases_lt m first)

-- a cell that is not there
pub no_cell : (x : Option Cell) → is_some x ≡ false → x ≡ None
no_cell None h = refl
no_cell (Some c) h = absurd (false≢true (sym h))

-- what holds of the places before k and of k holds of those up to it
pub one_more : (P : ℕ → Type 0) (from k : ℕ) → ((m : ℕ) → from ≤ m → m < k → P m) → P k → (m : ℕ) → from ≤ m → m < k + 1 → P m
one_more P from k before here m low less =
    ⊎_elim (λ (lower : m < k). before m low lower) (λ (high : k ≤ m). let same : k ≡ m = omega arith in subst P same here) (cases_lt m k)

-- where a place is no neighbour there is no cell
no_cell_of : (x y : Option Cell) → (is_some x || is_some y) ≡ false → x ≡ None
no_cell_of None y h = refl
no_cell_of (Some c) y h = absurd (false≢true (sym h))

nothing_either : (b : Bool) (x : Option Cell) → x ≡ None → (if b then x else None) ≡ None
nothing_either true x h = h
nothing_either false x h = refl

pub row_none : (points : List ℕ) (private : List Bool) (at : ℕ → ℕ → Option Cell) (p m : ℕ) → p < length points → are_neighbours at p m ≡ false
    → cell_in (bounds_view points private at) (Some p) (Some m) ≡ None
row_none points private at p m lp away =
    let row = upto (private_cells private at p) (length points) in
    ⊎_elim
    (λ (within : m < length points).
    cell_is points private at p m lp within
    ∙ nothing_either (slice_index_or private p false || slice_index_or private m false) (at p m) (no_cell_of (at p m) (at m p) away))
    (λ (past : length points ≤ m).
    let many = upto-length (private_cells private at p) (length points) in
    ap (λ r. slice_index_or r m None) (upto-at (λ p. upto (private_cells private at p) (length points)) (length points) p [] lp)
    ∙ get_or_past row m None (omega arith))
    (cases_lt m (length points))

-- between two places that are not private there is no cell
pub shared_none : (points : List ℕ) (private : List Bool) (at : ℕ → ℕ → Option Cell) (p m : ℕ) → p < length points → slice_index_or private p false ≡ false
    → slice_index_or private m false ≡ false → cell_in (bounds_view points private at) (Some p) (Some m) ≡ None
shared_none points private at p m lp first second =
    let row = upto (private_cells private at p) (length points) in
    ⊎_elim
    (λ (within : m < length points). cell_is points private at p m lp within ∙ rw (first, second) refl)
    (λ (past : length points ≤ m).
    let many = upto-length (private_cells private at p) (length points) in
    ap (λ r. slice_index_or r m None) (upto-at (λ p. upto (private_cells private at p) (length points)) (length points) p [] lp)
    ∙ get_or_past row m None (omega arith))
    (cases_lt m (length points))

module _ (b : BoundsView) (i row from : ℕ) (o : Option ℕ) (is : place_in b.points i ≡ Some row)
    (below : (k : ℕ) → k < from → IsAbove (point_at b.points k) o → ⊥) where
  -- a place of a point above is not before the first one
  from_place : (q k : ℕ) → place_in b.points q ≡ Some k → IsAbove q o → from ≤ k
  from_place q k there above =
      ⊎_elim
      (λ (less : k < from). absurd (below k less (subst (λ x. IsAbove x o) (sym (place_found b.points q k there).1) above)))
      (λ (high : from ≤ k). high)
      (cases_lt k from)

  bound_of : (q : ℕ) (k : Option ℕ) → place_in b.points q ≡ k → ((m : ℕ) → place_in b.points q ≡ Some m → cell_in b (Some row) (Some m) ≡ None)
      → bound_between b i q ≡ None
  bound_of q None there none = (λ t. weight_at (cell_in b (is t) (there t)))
  bound_of q (Some m) there none = (λ t. weight_at (cell_in b (is t) (there t))) ∙ ap weight_at (none m there)

  pub next_none : ((m : ℕ) → from ≤ m → cell_in b (Some row) (Some m) ≡ None) → (q : ℕ) → IsAbove q o → bound_between b i q ≡ None
  next_none none q above = bound_of q (place_in b.points q) refl (λ m there. none m (from_place q m there above))

  pub next_least : (k : ℕ) → Rises b.points → k < length b.points → ((m : ℕ) → from ≤ m → m < k → cell_in b (Some row) (Some m) ≡ None)
      → (q : ℕ) → q < point_at b.points k → IsAbove q o → bound_between b i q ≡ None
  next_least k rises lk least q less above =
      bound_of q (place_in b.points q) refl (λ m there.
      let found = place_found b.points q m there in
      least m (from_place q m there above)
      (⊎_elim (λ (low : m < k). low) (λ (high : k ≤ m). absurd (later m found.0 found.1 high)) (cases_lt m k)))
    where
      later : (m : ℕ) → m < length b.points → point_at b.points m ≡ q → k ≤ m → ⊥
      later m lm is_q high =
          ⊎_elim
          (λ (above : k < m). let up = rises k m above lm in omega arith)
          (λ (same : m ≤ k). let e : k ≡ m = omega arith in let f = ap (point_at b.points) e in omega arith)
          (cases_lt k m)

  pub next_some : (k : ℕ) → Rises b.points → k < length b.points → is_some (cell_in b (Some row) (Some k)) ≡ true
      → is_some (bound_between b i (point_at b.points k)) ≡ true
  next_some k rises lk some =
      (λ t. is_some (weight_at (cell_in b (is t) (place_of_point b.points k rises lk t)))) ∙ some_cell (cell_in b (Some row) (Some k)) some
    where
      some_cell : (x : Option Cell) → is_some x ≡ true → is_some (weight_at x) ≡ true
      some_cell None h = h
      some_cell (Some c) h = refl
