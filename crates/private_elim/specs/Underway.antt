-- What is true of the fields of an elimination: taken_view, Fields, IsUnderway.
use Rattle.std.specs.Prelude.{◌≡◌, ℕ, List, Bool, Option, map, length, slice_index_or, true}
use Rattle.stn_model.specs.declared.ids.PointId.{PointId}
use Rattle.dist_rows.specs.declared.cell.Cell.{Cell}
use Rattle.elim_step.specs.declared.joins.Joins.{Joins}
use Rattle.elim_step.specs.Eliminates.{remains}
use Rattle.elim_step.specs.JoinedPlaces.{is_joined}
use Rattle.private_elim.specs.Degrees.{gone_of}
use Rattle.private_elim.specs.Locals.{LocalView}
use Rattle.private_elim.specs.Taken.{TakenView, IsTaken}

-- what contracts see of a local problem and the points taken
abbrev pub taken_view : LocalView → List PointId → TakenView
taken_view v order = record { local = v; order = map (λ p. p.0) order }

-- a local problem and the points taken, with the size, the cells and the room of the rows, the joined pairs, the places that remain, and with how many
-- places that do not remain each is joined
pub record Fields : Type 0 where
  pub local : LocalView
  pub order : List ℕ
  pub places : ℕ
  pub at : ℕ → ℕ → Option Cell
  pub joins : Joins
  pub remain : List Bool
  pub gone : List ℕ
  pub room : ℕ → ℕ → Bool

-- the sizes agree, the places that do not remain are counted for each that does, joined pairs have room, and all is as the points that are taken leave it
pub record IsUnderway (e : Fields) : Type 0 where
  pub square : e.places ≡ length e.local.points
  pub joins_size : e.joins.size ≡ length e.local.points
  pub gone_len : length e.gone ≡ length e.local.points
  pub gone : (p : ℕ) → remains e.remain p ≡ true → slice_index_or e.gone p 0 ≡ gone_of e.remain e.joins p
  pub roomy : (p q : ℕ) → is_joined e.joins p q ≡ true → e.room p q ≡ true
  pub taken : IsTaken e.local e.order e.at (is_joined e.joins) e.remain
