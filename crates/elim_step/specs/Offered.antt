-- The offers of a row: the cells of a place with some others, as offers to these: offer_for, offers_of, AreCells, AreOffers.
use Rattle.std.specs.Prelude.{◌≡◌, ℕ, ◌<◌, List, true, Option, Some, None, length, take, slice_index_or, if◌then◌else◌}
use Rattle.dist_rows.specs.declared.cell.Cell.{Cell}
use Rattle.dist_rows.specs.declared.cell.Offer.{Offer}
use Rattle.dist_rows.specs.Cells.{IsLight, offer_at, offer_to, AreRising}
use Rattle.stn_walk.specs.Eliminations.{is_in}
use Rattle.elim_step.specs.declared.offers.Offers.{Offers}

-- a cell as an offer to a place, where it is there
abbrev pub offer_for : ℕ → Option Cell → Option Offer
offer_for q None = None
offer_for q (Some c) = Some (record { weight = c.weight; place = q })

-- the offers of a buffer
abbrev pub offers_of : Offers → List Offer
offers_of o = take o.count o.offers

-- the cells in a buffer are those to the places of a list
abbrev pub AreCells : (ℕ → Option Cell) → List ℕ → List (Option Cell) → Type 0
AreCells f places cells = (m : ℕ) → m < length places → slice_index_or cells m None ≡ f (slice_index_or places m 0)

-- the offers are those of the cells f to the places of a list, by rising place
pub record AreOffers (f : ℕ → Option Cell) (places : List ℕ) (offers : List Offer) : Type 0 where
  pub rising : AreRising offers
  pub each : (q : ℕ) → offer_to offers q ≡ (if is_in places q then offer_for q (f q) else None)
  pub listed : (m : ℕ) → m < length offers → is_in places (offer_at offers m).place ≡ true
  pub light : (m : ℕ) → m < length offers → IsLight 99 (offer_at offers m).weight
