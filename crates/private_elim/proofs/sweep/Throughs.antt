-- How sums of cells and bounds came to be.
--   SumParts, sum_parts        what a sum of two cells through a place is
--   comes_first                a point of the order comes before those that neither are it nor come before it
--   some_weight, unless_some, some_of   cells that are there
--   point_there, is_through    the place through which a cell came, and its point
use Rattle.std.proofs.Common.{◌≡◌, ℕ, ◌<◌, List, ◌∷◌, ◌++◌, Bool, true, false, Option, Some, None, length, reverse, refl, sym, ap, subst, ◌∙◌}
use Rattle.std.specs.Prelude.{ℤ, ◌+ℤ◌, is_some, IfSome}
use Rattle.stn_model.specs.Joined.{ComesBefore}
use Rattle.stn_walk.specs.Eliminations.{is_in, before_both}
use Rattle.stn_walk.proofs.Joins.{order-from_before_both}
use Rattle.stn_walk.proofs.Members.{is_in-first}
use Rattle.dist_rows.specs.declared.cell.Cell.{Cell}
use Rattle.dist_rows.specs.declared.cell.Via.{Via}
use Rattle.dist_rows.specs.declared.cell.Via.TheVariants.{Given, Published, Through}
use Rattle.elim_step.specs.Eliminates.{sum_through}
use Rattle.elim_step.specs.Eliminated.{weight_at, point_at}
use Rattle.private_elim.specs.Backs.{private_cells}
use Rattle.private_elim.specs.Throughs.{IsThrough, AreThrough, point_of_via}
use Rattle.private_elim.proofs.taking.Orders.{before-behind}

-- what the sum of two cells through m is
pub record SumParts (m : ℕ) (x y : Option Cell) (c : Cell) : Type 0 where
  pub first : ℤ
  pub second : ℤ
  pub is_first : weight_at x ≡ Some first
  pub is_second : weight_at y ≡ Some second
  pub via : c.via ≡ Through m
  pub sum : c.weight ≡ first +ℤ second

pub sum_parts : (m : ℕ) (x y : Option Cell) (c : Cell) → sum_through m x y ≡ Some c → SumParts m x y c
sum_parts m None y c is = absurd (cc)
sum_parts m (Some a) None c is = absurd (cc)
sum_parts m (Some a) (Some b) c is = record {
  first = a.weight;
  second = b.weight;
  is_first = refl;
  is_second = refl;
  via = (let same : record { weight = a.weight +ℤ b.weight; via = Through m } ≡ c = cc in ap (λ (d : Cell). d.via) (sym same));
  sum = (let same : record { weight = a.weight +ℤ b.weight; via = Through m } ≡ c = cc in ap (λ (d : Cell). d.weight) (sym same));
}

-- a point of the order comes before those that neither are it nor come before it
pub comes_first : (order ds : List ℕ) (k : ℕ) (es : List ℕ) (x : ℕ) → reverse order ≡ ds ++ k ∷ es → is_in (k ∷ es) x ≡ false → ComesBefore order k x
comes_first order ds k es x cut away =
    (order-from_before_both order x x k
    (ap (λ fs. is_in (before_both fs x x) k) cut ∙ before-behind ds (k ∷ es) x x away away k (is_in-first k es))).0

-- a cell that is there
pub some_weight : (x : Option Cell) (w : ℤ) → weight_at x ≡ Some w → is_some x ≡ true
some_weight None w is = absurd (cc)
some_weight (Some c) w is = refl

pub unless_some : (P : Cell → Type 0) (x : Option Cell) → (is_some x ≡ true → ⊥) → IfSome x P
unless_some P None none = tt
unless_some P (Some c) none = absurd (none refl)

pub some_of : (P Q : Cell → Type 0) (x : Option Cell) → ((c : Cell) → P c → Q c) → IfSome x P → IfSome x Q
some_of P Q None h p = tt
some_of P Q (Some c) h p = h c p

-- the point through which a cell came
pub point_there : (points : List ℕ) (c : Cell) (m : ℕ) → c.via ≡ Through m → point_of_via points c.via ≡ Some (point_at points m)
point_there points c m is = ap (point_of_via points) is

through_via : (n : ℕ) (v : Via) (m : ℕ) → v ≡ Through m → m < n → IsThrough n v
through_via n (Given k) m is lt = absurd (cc)
through_via n (Published a) m is lt = absurd (cc)
through_via n (Through k) m is lt = let same : k ≡ m = cc in rw same lt

pub is_through : (n : ℕ) (c : Cell) (m : ℕ) → c.via ≡ Through m → m < n → IsThrough n c.via
is_through n c m is lt = through_via n c.via m is lt

-- equal fields came through the same places
pub same_through : (at at' : ℕ → ℕ → Option Cell) (points points' : List ℕ) (private private' : List Bool) → points ≡ points' → private ≡ private'
    → ((p q : ℕ) → at p q ≡ at' p q) → AreThrough (length points) private at → AreThrough (length points') private' at'
same_through at at' points points' private private' same flags cells h p q =
    subst (λ o. IfSome o (λ c. IsThrough (length points') c.via)) (λ t. private_cells (flags t) (λ x y. cells x y t) p q)
    (subst (λ (n : ℕ). IfSome (private_cells private at p q) (λ c. IsThrough n c.via)) (ap length same) (h p q))

-- a weight that came through a place has it
pub place_of_through : (n : ℕ) (v : Via) → IsThrough n v → (m : ℕ) × (v ≡ Through m)
place_of_through n (Given k) h = absurd h
place_of_through n (Published a) h = absurd h
place_of_through n (Through m) h = (m, refl)
