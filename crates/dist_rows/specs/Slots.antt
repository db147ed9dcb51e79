-- The cell that a slot stores, and the slot of a cell.
use Rattle.std.specs.Prelude.{◌≡◌, ℤ, pos, Bool, Option, Some, None, refl}
use Rattle.std.proofs.Common.{ap}
use Rattle.dist_rows.specs.declared.cell.Cell.{Cell}
use Rattle.dist_rows.specs.declared.cell.Via.{Via}
use Rattle.dist_rows.specs.declared.cell.Via.TheVariants as via
use Rattle.dist_rows.specs.Cells.{is_light}
use Rattle.dist_rows.specs.declared.slot.Slot.{Slot}
use Rattle.dist_rows.specs.declared.slot.Origin.{Origin}
use Rattle.dist_rows.specs.declared.slot.Origin.TheVariants.{Nothing, Given, Published, Through}

-- where a stored weight comes from, where there is a cell
abbrev pub via_in : Origin → Option Via
via_in Nothing = None
via_in (Given n) = Some (via.Given n)
via_in (Published n) = Some (via.Published (record { 0 = n }))
via_in (Through n) = Some (via.Through n)

-- a cell, where there is an origin
abbrev pub with_weight : ℤ → Option Via → Option Cell
with_weight w None = None
with_weight w (Some v) = Some (record { weight = w; via = v })

-- the cell of a slot
abbrev pub cell_in : Slot → Option Cell
cell_in s = with_weight s.weight (via_in s.origin)

-- the origin of a cell's weight as it is stored
abbrev pub origin_for : Via → Origin
origin_for (via.Given n) = Given n
origin_for (via.Published a) = Published a.0
origin_for (via.Through n) = Through n

-- the slot of a cell
abbrev pub slot_for : Cell → Slot
slot_for c = record { weight = c.weight; origin = origin_for c.via }

via_in-origin_for : (v : Via) → via_in (origin_for v) ≡ Some v
via_in-origin_for (via.Given n) = refl
via_in-origin_for (via.Published a) = refl
via_in-origin_for (via.Through n) = refl

-- what is stored is read
pub cell_in-slot_for : (c : Cell) → cell_in (slot_for c) ≡ Some c
cell_in-slot_for c = ap (with_weight c.weight) (via_in-origin_for c.via)

-- the slot without a cell
abbrev pub no_slot : Slot
no_slot = record { weight = pos 0; origin = Nothing }

-- whether a slot holds no cell of magnitude above 2 ^ 100
abbrev pub holds_light : Slot → Bool
holds_light s = is_light (cell_in s)
