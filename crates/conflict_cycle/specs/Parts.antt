-- What the agents' reduced parts, a shared graph and the agents' back sweeps say together of a network: AreFound, AreFinalsOf, IsBackOf, PartsView, BelongsTo,
-- IsParts, OfBelonging.
use Rattle.std.specs.Prelude.{◌≡◌, ℕ, ◌≤◌, ℤ, nat_abs, List, [], true, length, slice_get, Some, is_some}
use Rattle.stn_model.specs.Limits.{greatest_walk}
use Rattle.stn_model.specs.Net.{Net}
use Rattle.elim_step.specs.declared.summary.SummaryEntry.{SummaryEntry}
use Rattle.elim_step.specs.Summaries.{entry_in}
use Rattle.private_elim.specs.Backs.{BoundsView, bound_between}
use Rattle.private_elim.specs.Laws.{AreSwept}
use Rattle.private_elim.specs.ReducedViews.{ReducedView}
use Rattle.private_elim.specs.Throughs.{CameThrough}
use Rattle.shared_graph.specs.declared.events.Phase.TheVariants.{Order, Reverse}
use Rattle.shared_graph.specs.Histories.{SharedView}
use Rattle.shared_graph.specs.Interfaces.{InterfaceView, Summary}
use Rattle.shared_graph.specs.Journals.{IsDone, StandsFor}
use Rattle.shared_graph.specs.States.{State}
use Rattle.shared_graph.specs.Weights.{final}
use Rattle.conflict_cycle.specs.Belongs.{AreReducedOf, ArePublishedOf}
use Rattle.conflict_cycle.specs.PartOrders.{AreReduced}

-- each pair of the summary has a final bound, of magnitude at most 2^53
abbrev pub AreFound : InterfaceView → State → Summary → Type 0
AreFound face s summary = (i j : ℕ) → is_some (entry_in summary i j) ≡ true → (b : ℤ) × (final face s i j ≡ Some b) × (nat_abs b ≤ greatest_walk)

-- the entries hold the final bound of each pair of the summary
abbrev pub AreFinalsOf : InterfaceView → State → Summary → List SummaryEntry → Type 0
AreFinalsOf face s summary finals = (i j : ℕ) → is_some (entry_in summary i j) ≡ true → entry_in finals i j ≡ final face s i j

-- the bounds are the back sweep of the part on the final bounds of its summary's pairs, and each came through a later neighbour
pub record IsBackOf (face : InterfaceView) (s : State) (r : ReducedView) (b : BoundsView) : Type 0 where
  pub finals : List SummaryEntry
  pub hold : AreFinalsOf face s r.summary finals
  pub swept : AreSwept r finals (bound_between b)
  pub came : (i j : ℕ) → is_some (bound_between b i j) ≡ true → CameThrough r finals b i j

-- the reduced parts, the graph, and the back sweeps
pub record PartsView : Type 0 where
  pub reduced : List ReducedView
  pub shared : SharedView
  pub bounds : List BoundsView

-- one reduced part and one back sweep for each agent of the network, by number, each part of the agent's local problem in it; the graph stands for
-- the network, and has published the parts' summaries
pub record BelongsTo (net : Net) (parts : PartsView) : Type 0 where
  pub reduced : AreReducedOf net parts.reduced
  pub stands : StandsFor net parts.shared
  pub published : ArePublishedOf parts.reduced parts.shared.state
  pub one_each : length parts.bounds ≡ length parts.reduced
  pub back : (a : ℕ) (r : ReducedView) (b : BoundsView) → slice_get parts.reduced a ≡ Some r → slice_get parts.bounds a ≡ Some b
      → IsBackOf parts.shared.face parts.shared.state r b

-- what is known without a network: the parts are reduced, all shared points are eliminated and revisited, and none has a time
pub record IsParts (parts : PartsView) : Type 0 where
  pub reduced : AreReduced parts.reduced
  pub ordered : IsDone parts.shared.face parts.shared.state Order
  pub revisited : IsDone parts.shared.face parts.shared.state Reverse
  pub untimed : parts.shared.state.assigned ≡ []

-- what holds of every network to which the parts belong
abbrev pub OfBelonging : PartsView → (Net → Type 0) → Type 0
OfBelonging parts holds = (net : Net) → BelongsTo net parts → holds net
