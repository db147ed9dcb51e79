-- A full matrix of slots as one list, row by row: which pairs have room, and the cell of a pair.
use Rattle.std.specs.Prelude.{◌≡◌, ◌≢◌, ℕ, ◌+◌, ◌*◌, ◌<◌, List, [], ◌∷◌, Bool, true, false, ◌&&◌, not, ◌==◌, Option, Some, None, is_some, IfSome}
use Rattle.std.specs.Prelude.{nat_lt, slice_index_or, if◌then◌else◌, refl}
use Rattle.std.specs.List.{list_all}
use Rattle.std.proofs.Common.{arith, zero, suc}
use Rattle.std.proofs.lemmas.Bool.{and_parts}
use Rattle.std.proofs.lemmas.Bool.Decides.{nat_tests}
use Rattle.dist_rows.specs.declared.cell.Cell.{Cell}
use Rattle.dist_rows.specs.declared.slot.Slot.{Slot}
use Rattle.dist_rows.specs.Cells.{is_light, IsLight}
use Rattle.dist_rows.specs.Slots.{cell_in, no_slot, holds_light}

-- pairs of different places have room
abbrev pub in_room : ℕ → ℕ → ℕ → Bool
in_room n p q = not (p == q) && nat_lt p n && nat_lt q n

-- the cell of a pair
abbrev pub cell_at : ℕ → List Slot → ℕ → ℕ → Option Cell
cell_at n slots p q = if in_room n p q then cell_in (slice_index_or slots (p * n + q) no_slot) else None

pub room-from_cell : (n : ℕ) (slots : List Slot) (p q : ℕ) → is_some (cell_at n slots p q) ≡ true → in_room n p q ≡ true
room-from_cell n slots p q h =
    let P : Bool → Type 0 = λ b. is_some (if b then cell_in (slice_index_or slots (p * n + q) no_slot) else None) ≡ true → b ≡ true in
    (elim (in_room n p q) as P [ true ↦ λ x. refl | false ↦ λ x. x ]) h

pub within-from_room : (n p q : ℕ) → in_room n p q ≡ true → (p < n) × (q < n) × (p ≢ q)
within-from_room n p q h = (grind (arith, nat_tests), grind (arith, nat_tests), grind (arith, nat_tests))

light-one : (x : Option Cell) → is_light x ≡ true → IfSome x (λ c. IsLight 100 c.weight)
light-one None h = tt
light-one (Some c) h = grind (arith, nat_tests)

light-at : (slots : List Slot) → list_all holds_light slots ≡ true → (k : ℕ) → IfSome (cell_in (slice_index_or slots k no_slot)) (λ c. IsLight 100 c.weight)
light-at [] h k = tt
light-at (x ∷ xs) h zero = light-one (cell_in x) (and_parts (holds_light x) (list_all holds_light xs) h).0
light-at (x ∷ xs) h (suc k) = light-at xs (and_parts (holds_light x) (list_all holds_light xs) h).1 k

pub light-cell : (n : ℕ) (slots : List Slot) → list_all holds_light slots ≡ true → (p q : ℕ) → IfSome (cell_at n slots p q) (λ c. IsLight 100 c.weight)
light-cell n slots h p q =
    let P : Bool → Type 0 = λ b. IfSome (if b then cell_in (slice_index_or slots (p * n + q) no_slot) else None) (λ c. IsLight 100 c.weight) in
    elim (in_room n p q) as P [ true ↦ light-at slots h (p * n + q) | false ↦ tt ]
