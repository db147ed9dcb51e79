-- One cell written.
use Rattle.std.proofs.Common.{zero, suc, ◌≡◌, ◌≢◌, ℕ, ◌+◌, ◌*◌, ◌<◌, List, [], ◌∷◌, true, false, ◌&&◌, Option, Some, None, get_or, set, ap, sym}
use Rattle.std.proofs.Common.{◌∙◌, refl, length, arith, get_or-set_other, get_or-set_same}
use Rattle.std.proofs.lemmas.Bool.{and_parts}
use Rattle.std.proofs.lemmas.Nat.{same_from_place, mul-add-lt}
use Rattle.dist_rows.specs.Matrix.{within-from_room}
use Rattle.std.specs.Prelude.{◌==◌, if◌then◌else◌}
use Rattle.std.specs.List.{list_all}
use Rattle.std.specs.Prelude.{replicate}
use Rattle.std.proofs.lemmas.Bool.Decides.{nat_tests}
use Rattle.dist_rows.specs.declared.cell.Cell.{Cell}
use Rattle.dist_rows.specs.declared.slot.Slot.{Slot}
use Rattle.dist_rows.specs.Cells.{lowered, lesser, is_lower}
use Rattle.dist_rows.specs.Slots.{cell_in, no_slot, holds_light}
use Rattle.dist_rows.specs.Matrix.{cell_at, in_room}

pub list_all-set : (slots : List Slot) (k : ℕ) (x : Slot) → list_all holds_light slots ≡ true → holds_light x ≡ true
    → list_all holds_light (set slots k x) ≡ true
list_all-set [] k x h l = h
list_all-set (y ∷ ys) zero x h l = ap (λ b. b && list_all holds_light ys) l ∙ (and_parts _ _ h).1
list_all-set (y ∷ ys) (suc k) x h l =
    ap (λ b. b && list_all holds_light (set ys k x)) (and_parts (holds_light y) _ h).0 ∙ list_all-set ys k x (and_parts (holds_light y) _ h).1 l

-- a lower cell is the lesser
lesser-lower : (old : Option Cell) (cell : Cell) → is_lower old cell ≡ true → lesser old cell ≡ Some cell
lesser-lower None cell h = refl
lesser-lower (Some o) cell h = grind arith

-- a cell that is not lower leaves the old one
pub lesser-same : (old : Option Cell) (cell : Cell) → is_lower old cell ≡ false → lesser old cell ≡ old
lesser-same None cell h = absurd (cc)
lesser-same (Some o) cell h = grind arith

-- the cell at a pair that has room
cell_at-room : (n : ℕ) (slots : List Slot) (p q : ℕ) → in_room n p q ≡ true → cell_at n slots p q ≡ cell_in (get_or slots (p * n + q) no_slot)
cell_at-room n slots p q h = rw h refl

cell_at-none : (n : ℕ) (slots : List Slot) (p q : ℕ) → in_room n p q ≡ false → cell_at n slots p q ≡ None
cell_at-none n slots p q h = rw h refl

-- different pairs have different places
places_apart : (n p q i j : ℕ) → (p < n) × (q < n) × (p ≢ q) → (i < n) × (j < n) × (i ≢ j) → ((p == i) && (q == j)) ≡ false → p * n + q ≢ i * n + j
places_apart n p q i j in_p in_i apart same =
    let e = same_from_place p q i j n in_p.1 in_i.1 same in
    let yes : ((p == i) && (q == j)) ≡ true = rw (e.0, e.1) (grind (arith, nat_tests)) in
    cc

-- another slot that is written leaves this one
other : (n : ℕ) (slots : List Slot) (i j : ℕ) (x : Slot) → in_room n i j ≡ true → (p q : ℕ) → ((p == i) && (q == j)) ≡ false
    → cell_at n (set slots (i * n + j) x) p q ≡ cell_at n slots p q
other n slots i j x room p q apart =
    elim (in_room n p q) as (λ b. in_room n p q ≡ b → cell_at n (set slots (i * n + j) x) p q ≡ cell_at n slots p q) [
      | true ↦ λ h. cell_at-room n (set slots (i * n + j) x) p q h
          ∙ ap cell_in (get_or-set_other slots (i * n + j) (p * n + q) x no_slot
          (places_apart n p q i j (within-from_room n p q h) (within-from_room n i j room) apart)) ∙ sym (cell_at-room n slots p q h)
      | false ↦ λ h. cell_at-none n (set slots (i * n + j) x) p q h ∙ sym (cell_at-none n slots p q h)
    ] refl

-- the cells after a slot is written with a lower cell
pub written : (n : ℕ) (slots : List Slot) (i j : ℕ) (cell : Cell) (x : Slot) → cell_in x ≡ Some cell → length slots ≡ n * n → in_room n i j ≡ true
    → is_lower (cell_at n slots i j) cell ≡ true
    → (p q : ℕ) → cell_at n (set slots (i * n + j) x) p q ≡ lowered i j cell (cell_at n slots) p q
written n slots i j cell x is len room lower p q =
    let in_i = within-from_room n i j room in
    elim ((p == i) && (q == j)) as
    (λ b. ((p == i) && (q == j)) ≡ b → cell_at n (set slots (i * n + j) x) p q ≡ (if b then lesser (cell_at n slots i j) cell else cell_at n slots p q)) [
      | true ↦ λ h.
          let at_i : p ≡ i = grind (arith, nat_tests) in
          let at_j : q ≡ j = grind (arith, nat_tests) in
          ap (λ y. cell_at n (set slots (i * n + j) x) y q) at_i ∙ ap (cell_at n (set slots (i * n + j) x) i) at_j
          ∙ cell_at-room n (set slots (i * n + j) x) i j room
          ∙ ap cell_in (get_or-set_same slots (i * n + j) x no_slot (rw len (mul-add-lt i n j n in_i.0 in_i.1)))
          ∙ is
          ∙ sym (lesser-lower (cell_at n slots i j) cell lower)
      | false ↦ λ h. other n slots i j x room p q h
    ] refl

light-empty : (n : ℕ) → list_all holds_light (replicate n no_slot) ≡ true
light-empty zero = refl
light-empty (suc n) = light-empty n

pub empty_light : (n : ℕ) (slots : List Slot) → slots ≡ replicate n no_slot → list_all holds_light slots ≡ true
empty_light n slots e = rw e (light-empty n)
