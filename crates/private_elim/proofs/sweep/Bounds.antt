-- What contracts see of private bounds.
--   rises-from_pairs, pairs-from_rises   lists that rise, in two forms
--   upto-length, upto-at                 a map written out: its length, and its values
--   cell_is, cell_found                  the cell between two places, and between two points
--   view_same                            equal fields are seen as equal
use Rattle.std.proofs.Common.{zero, suc, ◌≡◌, ℕ, ◌<◌, List, [], ◌∷◌, ◌++◌, length, Option, Some, None, Bool, refl, sym, ap, ◌∙◌, arith}
use Rattle.std.proofs.Common.{inl, inr}
use Rattle.std.specs.Prelude.{slice_index_or}
use Rattle.std.specs.List.{AllPairs}
use Rattle.std.proofs.lemmas.Bool.{cases_eq}
use Rattle.std.proofs.lemmas.List.{get_or_default, get_or_append_left}
use Rattle.std.proofs.Math.Seq.{get_or-append_seam}
use Rattle.std.proofs.lemmas.List.{length-append}
use Rattle.dist_rows.specs.declared.cell.Cell.{Cell}
use Rattle.private_elim.specs.Backs.{upto, private_cells, bounds_view, cell_in}
use Rattle.private_elim.specs.Locals.{place_in}
use Rattle.private_elim.proofs.locals.Places.{Rises}

-- lists that rise, in two forms
pub rises-from_pairs : (xs : List ℕ) → AllPairs (λ p q. p < q) xs → Rises xs
rises-from_pairs xs h i j lt within = h i j 0 lt within

pub pairs-from_rises : (xs : List ℕ) → Rises xs → AllPairs (λ p q. p < q) xs
pairs-from_rises xs h i j d lt within =
    let first = get_or_default xs i d 0 (omega arith) in
    let second = get_or_default xs j d 0 within in
    let less = h i j lt within in
    omega arith

-- a map written out
pub upto-length : {X : Type 0} (f : ℕ → X) (n : ℕ) → length (upto f n) ≡ n
upto-length f zero = refl
upto-length f (suc n) = omega (arith, length-append (upto f n) (f n ∷ []), upto-length f n)

pub upto-at : {X : Type 0} (f : ℕ → X) (n k : ℕ) (d : X) → k < n → slice_index_or (upto f n) k d ≡ f k
upto-at f zero k d lt = absurd (omega arith)
upto-at f (suc n) k d lt = elim (cases_eq k n) [
  | inl same ↦ ap (λ m. slice_index_or (upto f n ++ f n ∷ []) m d) (same ∙ sym (upto-length f n)) ∙ get_or-append_seam (upto f n) (f n) [] d ∙ ap f (sym same)
  | inr apart ↦ (let low : k < n = omega arith in let many = upto-length f n in
      get_or_append_left (upto f n) (f n ∷ []) d k (omega arith) ∙ upto-at f n k d low)
]

-- the cell between two places
pub cell_is : (points : List ℕ) (private : List Bool) (at : ℕ → ℕ → Option Cell) (p q : ℕ) → p < length points → q < length points
    → cell_in (bounds_view points private at) (Some p) (Some q) ≡ private_cells private at p q
cell_is points private at p q lp lq =
    ap (λ r. slice_index_or r q None) (upto-at (λ p. upto (private_cells private at p) (length points)) (length points) p [] lp)
    ∙ upto-at (private_cells private at p) (length points) q None lq

-- and between two points
pub cell_found : (points : List ℕ) (private : List Bool) (at : ℕ → ℕ → Option Cell) (i j p q : ℕ) → place_in points i ≡ Some p → place_in points j ≡ Some q
    → p < length points → q < length points
    → cell_in (bounds_view points private at) (place_in points i) (place_in points j) ≡ private_cells private at p q
cell_found points private at i j p q from to lp lq = (λ k. cell_in (bounds_view points private at) (from k) (to k)) ∙ cell_is points private at p q lp lq

-- equal fields are seen as equal
pub view_same : (points points' : List ℕ) (private private' : List Bool) (at at' : ℕ → ℕ → Option Cell) → points ≡ points' → private ≡ private'
    → ((p q : ℕ) → at p q ≡ at' p q) → bounds_view points private at ≡ bounds_view points' private' at'
view_same points points' private private' at at' same flags cells = (λ t. bounds_view (same t) (flags t) (λ p q. cells p q t))
