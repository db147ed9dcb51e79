use Rattle.std.proofs.Common.{◌≡◌, None, subst}
use Rattle.shared_graph.specs.declared.events.Event.{Event}
use Rattle.shared_graph.specs.Refusals.{cause_of}
use Rattle.shared_graph.proofs.states.Passing.{no_stop, publish_passes}
use Rattle.shared_graph.proofs.states.Keeps.{sound_of, made}
use Rattle.shared_graph.proofs.cells.Steps.{publish_lowers}
use Rattle.shared_graph.proofs.laws.publishes_lower.Goals as goal

pub returns : goal.returns
returns c = λ face summaries known fits s e a holds is legal i j.
    publish_lowers face known s (sound_of face known s holds) (made summaries a) (fits a)
    (publish_passes face s e.by a (subst (λ (event : Event). cause_of face s e.by event ≡ None) is (no_stop face s e legal).1)).1 i j
