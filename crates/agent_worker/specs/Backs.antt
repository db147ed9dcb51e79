-- The agents' own back sweeps: number_or_0, final_entry, ArePartsOfOne, AreBacks.
use Rattle.std.specs.Prelude.{◌≡◌, ℕ, ℤ, pos, List, length, slice_get, Option, Some, None}
use Rattle.stn_model.specs.Net.{Net}
use Rattle.elim_step.specs.declared.summary.SummaryEntry.{SummaryEntry}
use Rattle.private_elim.specs.Backs.{BoundsView}
use Rattle.private_elim.specs.ReducedViews.{ReducedView}
use Rattle.shared_graph.specs.Histories.{SharedView}
use Rattle.shared_graph.specs.Interfaces.{InterfaceView}
use Rattle.shared_graph.specs.Journals.{StandsFor}
use Rattle.shared_graph.specs.States.{State}
use Rattle.shared_graph.specs.Weights.{final}
use Rattle.conflict_cycle.specs.Belongs.{AreReducedOf, ArePublishedOf}
use Rattle.conflict_cycle.specs.Parts.{IsBackOf}

-- a number that is there; 0 where it is not
abbrev pub number_or_0 : Option ℤ → ℤ
number_or_0 None = pos 0
number_or_0 (Some b) = b

-- the pair of an entry with its final bound
abbrev pub final_entry : InterfaceView → State → SummaryEntry → SummaryEntry
final_entry face s e = record { from = e.from; to = e.to; weight = number_or_0 (final face s e.from.0 e.to.0) }

-- the graph stands for the network, and has published the summaries of these reduced parts, one for each agent by number, each of the agent's local
-- problem in the network
pub record ArePartsOfOne (net : Net) (reduced : List ReducedView) (v : SharedView) : Type 0 where
  pub parts : AreReducedOf net reduced
  pub stands : StandsFor net v
  pub published : ArePublishedOf reduced v.state

-- one back sweep for each part, by number, on the graph's final bounds
pub record AreBacks (v : SharedView) (reduced : List ReducedView) (bounds : List BoundsView) : Type 0 where
  pub one_each : length bounds ≡ length reduced
  pub each : (a : ℕ) (r : ReducedView) (b : BoundsView) → slice_get reduced a ≡ Some r → slice_get bounds a ≡ Some b → IsBackOf v.face v.state r b
