-- What a phase does to a shared graph: GoesOn, IsSwept.
use Rattle.std.specs.Prelude.{◌≡◌, List, ◌++◌, true}
use Rattle.std.specs.List.{list_all}
use Rattle.stn_model.specs.Net.{Net}
use Rattle.shared_graph.specs.declared.events.Entry.{Entry}
use Rattle.shared_graph.specs.declared.events.Phase.{Phase}
use Rattle.shared_graph.specs.Histories.{SharedView}
use Rattle.shared_graph.specs.Interfaces.{Summary}
use Rattle.shared_graph.specs.Journals.{AgreeWith, StandsFor, is_step_of}

-- the journal goes on by steps of the phase alone, over the same interface, and what is published is listed
pub record GoesOn (summaries : List Summary) (phase : Phase) (old new : SharedView) : Type 0 where
  pub face : new.face ≡ old.face
  pub agree : AgreeWith summaries new.state
  pub steps : List Entry
  pub journal : new.journal ≡ old.journal ++ steps
  pub of_phase : list_all (λ e. is_step_of phase e.event) steps ≡ true

-- the journal goes on by steps of the phase alone; the interface, the summaries and the order are as they were; and the graph stands for each network
-- for which it stood
pub record IsSwept (phase : Phase) (old new : SharedView) : Type 0 where
  pub face : new.face ≡ old.face
  pub published : new.state.published ≡ old.state.published
  pub order : new.state.order ≡ old.state.order
  pub steps : List Entry
  pub journal : new.journal ≡ old.journal ++ steps
  pub of_phase : list_all (λ e. is_step_of phase e.event) steps ≡ true
  pub stands : (net : Net) → StandsFor net old → StandsFor net new
