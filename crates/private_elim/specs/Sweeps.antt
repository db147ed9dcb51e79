-- The back sweep underway: HasRoomAll, IsSeenPlaces, HasGiven, LeavesAt, ArrivesAt, CameAt, IsSwept.
use Rattle.std.specs.Prelude.{◌≡◌, ◌≢◌, ◌⊎◌, ℕ, ◌+◌, ◌-◌, ◌*◌, ◌<◌, ◌≤◌, nat_abs, ℤ, ◌+ℤ◌, List, Bool, true, false, ◌||◌, not, Option, Some, is_some, IfSome}
use Rattle.std.specs.Prelude.{length, reverse, take}
use Rattle.stn_model.specs.Limits.{greatest_walk}
use Rattle.stn_model.specs.Net.{arcs_of}
use Rattle.stn_model.specs.ArcWalks.{IsInnerLeast}
use Rattle.stn_model.specs.Joined.{ComesBefore, IsJoined}
use Rattle.stn_walk.specs.Eliminations.{is_in}
use Rattle.dist_rows.specs.declared.cell.Cell.{Cell}
use Rattle.dist_rows.specs.declared.cell.Via.TheVariants.{Through}
use Rattle.elim_step.specs.declared.summary.SummaryEntry.{SummaryEntry}
use Rattle.elim_step.specs.Eliminates.{remains}
use Rattle.elim_step.specs.Eliminated.{weight_at, point_at, forward_of}
use Rattle.elim_step.specs.Revisits.{reach_of}
use Rattle.private_elim.specs.Locals.{LocalView, arcs_in, private_at}
use Rattle.private_elim.specs.Taken.{TakenView}
use Rattle.private_elim.specs.SummaryRows.{joined_at}
use Rattle.elim_step.specs.Summaries.{entry_in}
use Rattle.private_elim.specs.Parts.{OfPart}
use Rattle.private_elim.specs.Backs.{HoldsFinals}

-- each pair of joined places has room
abbrev pub HasRoomAll : TakenView → (ℕ → ℕ → Bool) → Type 0
HasRoomAll t room = (p q : ℕ) → p < length t.local.points → q < length t.local.points → p ≢ q → joined_at t p q ≡ true → room p q ≡ true

-- two different places of the local problem, neither of them private
pub record IsSeenPlaces (v : LocalView) (p q : ℕ) : Type 0 where
  pub from_within : p < length v.points
  pub to_within : q < length v.points
  pub different : p ≢ q
  pub from_seen : private_at v p ≡ false
  pub to_seen : private_at v q ≡ false

-- the cells are the entries between places that are not private
pub record HasGiven (v : LocalView) (entries : List SummaryEntry) (at : ℕ → ℕ → Option Cell) : Type 0 where
  pub only : (p q : ℕ) → is_some (at p q) ≡ true → IsSeenPlaces v p q
  pub weights : (p q : ℕ) → IsSeenPlaces v p q → weight_at (at p q) ≡ entry_in entries (point_at v.points p) (point_at v.points q)

-- the final cell c from place p to q came through place m, by the forward weight from p to m and the final cell on from there; the point of p comes
-- before the other two in the order
pub record LeavesAt (v : LocalView) (order : List ℕ) (at : ℕ → ℕ → Option Cell) (p q : ℕ) (c : Cell) : Type 0 where
  pub place : ℕ
  pub within : place < length v.points
  pub via : c.via ≡ Through place
  pub first : ComesBefore order (point_at v.points p) (point_at v.points q)
  pub later : ComesBefore order (point_at v.points p) (point_at v.points place)
  pub weight : ℤ
  pub forward : forward_of (arcs_in v) (reverse order) (point_at v.points p) (point_at v.points place) ≡ Some weight
  pub rest : ℤ
  pub onward : weight_at (reach_of at place q) ≡ Some rest
  pub sum : c.weight ≡ weight +ℤ rest

-- the same by the final cell from p to m and the forward weight on to q, whose point comes before the other two
pub record ArrivesAt (v : LocalView) (order : List ℕ) (at : ℕ → ℕ → Option Cell) (p q : ℕ) (c : Cell) : Type 0 where
  pub place : ℕ
  pub within : place < length v.points
  pub via : c.via ≡ Through place
  pub first : ComesBefore order (point_at v.points q) (point_at v.points p)
  pub later : ComesBefore order (point_at v.points q) (point_at v.points place)
  pub weight : ℤ
  pub forward : forward_of (arcs_in v) (reverse order) (point_at v.points place) (point_at v.points q) ≡ Some weight
  pub rest : ℤ
  pub onward : weight_at (reach_of at p place) ≡ Some rest
  pub sum : c.weight ≡ rest +ℤ weight

-- a final cell, where there is one, came by the revisit of one of its places
abbrev pub CameAt : LocalView → List ℕ → (ℕ → ℕ → Option Cell) → ℕ → ℕ → Type 0
CameAt v order at p q = IfSome (at p q) (λ c. LeavesAt v order at p q c ⊎ ArrivesAt v order at p q c)

-- The final cells once all private points but the first n of the order are revisited; `done` says which places are, among them those that are not
-- private. A cell with a private place stands between joined points. In each network in which the agent has this part and the entries hold least bounds,
-- the cell of each joined pair of such places is the least weight of all walks. The cells between seen places are the entries, and all others came by
-- revisits.
pub record IsSwept (v : LocalView) (order : List ℕ) (entries : List SummaryEntry) (n : ℕ) (at : ℕ → ℕ → Option Cell) (done : List Bool) : Type 0 where
  pub places : (p : ℕ) → p < length v.points → remains done p ≡ not (is_in (take n order) (point_at v.points p))
  pub len : length done ≡ length v.points
  pub ends : (p q : ℕ) → is_some (at p q) ≡ true → (remains done p ≡ true) × (remains done q ≡ true)
  pub pairs : (p q : ℕ) → is_some (at p q) ≡ true → (private_at v p || private_at v q) ≡ true
      → IsJoined (arcs_in v) order (point_at v.points p) (point_at v.points q)
  pub light : (p q : ℕ) → IfSome (at p q) (λ c. nat_abs c.weight ≤ greatest_walk + (length order - n) * greatest_walk)
  pub given : (p q : ℕ) → IsSeenPlaces v p q → weight_at (at p q) ≡ entry_in entries (point_at v.points p) (point_at v.points q)
  pub came : (p q : ℕ) → (private_at v p || private_at v q) ≡ true → CameAt v order at p q
  pub least : OfPart v (λ net. HoldsFinals net v.agent entries
      → (p q : ℕ) → p < length v.points → q < length v.points → remains done p ≡ true → remains done q ≡ true
      → IsJoined (arcs_in v) order (point_at v.points p) (point_at v.points q)
      → IsInnerLeast (λ _. true) (arcs_of net) (point_at v.points p) (point_at v.points q) (weight_at (at p q)))
