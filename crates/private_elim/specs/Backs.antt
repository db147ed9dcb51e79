-- What the back sweep gives: upto, BoundsView, private_cells, bounds_view, cell_in, bound_between, IsPrivatePair, HoldsFinals, IsLeastIn.
use Rattle.std.specs.Prelude.{◌≡◌, ℕ, zero, suc, ℤ, List, [], ◌∷◌, ◌++◌, Bool, true, false, ◌||◌, Option, Some, None, length, slice_index_or, if◌then◌else◌}
use Rattle.stn_model.specs.Net.{Net, point_count, arcs_of}
use Rattle.stn_model.specs.Joined.{IsJoined}
use Rattle.stn_model.specs.Schedules.{IsConsistent, IsLeastBound}
use Rattle.stn_model.specs.Summaries.{IsSeenPair}
use Rattle.dist_rows.specs.declared.cell.Cell.{Cell}
use Rattle.elim_step.specs.Eliminated.{weight_at}
use Rattle.elim_step.specs.declared.summary.SummaryEntry.{SummaryEntry}
use Rattle.private_elim.specs.Locals.{arcs_in, is_private_in, place_in}
use Rattle.elim_step.specs.Summaries.{entry_in}
use Rattle.private_elim.specs.ReducedViews.{ReducedView}

-- the values of a map below n, and the rows of one of pairs
abbrev pub upto : {X : Type 0} → (ℕ → X) → ℕ → List X
upto f zero = []
upto f (suc n) = upto f n ++ f n ∷ []

-- the points, by place, and by the places of a pair of which one is private its final cell
pub record BoundsView : Type 0 where
  pub points : List ℕ
  pub cells : List (List (Option Cell))

-- the final cells of the pairs of which one place is private
abbrev pub private_cells : List Bool → (ℕ → ℕ → Option Cell) → ℕ → ℕ → Option Cell
private_cells private at p q = if slice_index_or private p false || slice_index_or private q false then at p q else None

-- what contracts see of the points, of which of them are private, and of the final cells
abbrev pub bounds_view : List ℕ → List Bool → (ℕ → ℕ → Option Cell) → BoundsView
bounds_view points private at = record { points = points; cells = upto (λ p. upto (private_cells private at p) (length points)) (length points) }

-- the final cell between two places of which one is private
abbrev pub cell_in : BoundsView → Option ℕ → Option ℕ → Option Cell
cell_in b None q = None
cell_in b (Some p) None = None
cell_in b (Some p) (Some q) = slice_index_or (slice_index_or b.cells p []) q None

-- the bound between two points of which one is private
abbrev pub bound_between : BoundsView → ℕ → ℕ → Option ℤ
bound_between b i j = weight_at (cell_in b (place_in b.points i) (place_in b.points j))

-- a joined pair of which one point is private: own arcs, taken without direction, have a path between them whose inner points come before
-- both in the order; shared points and z come after all private ones
pub record IsPrivatePair (r : ReducedView) (i j : ℕ) : Type 0 where
  pub joined : IsJoined (arcs_in r.local) r.order i j
  pub private : (is_private_in r.local i || is_private_in r.local j) ≡ true

-- the network is consistent, and the entries hold the least bound of each pair of the agent's summary
pub record HoldsFinals (net : Net) (agent : ℕ) (finals : List SummaryEntry) : Type 0 where
  pub consistent : IsConsistent (point_count net) (arcs_of net)
  pub bounds : (i j : ℕ) → IsSeenPair net agent i j → (b : ℤ) × (entry_in finals i j ≡ Some b) × IsLeastBound (point_count net) (arcs_of net) i j b

-- it is there, and the least bound in the network
abbrev pub IsLeastIn : Net → ℕ → ℕ → Option ℤ → Type 0
IsLeastIn net i j None = ⊥
IsLeastIn net i j (Some b) = IsLeastBound (point_count net) (arcs_of net) i j b
