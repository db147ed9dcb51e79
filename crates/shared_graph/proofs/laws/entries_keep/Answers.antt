use Rattle.shared_graph.specs.Replays.{after}
use Rattle.shared_graph.proofs.states.Keeps.{entry_keeps, sound_of, together}
use Rattle.shared_graph.proofs.laws.entries_keep.Goals as goal

pub returns : goal.returns
returns c = λ face summaries known fits s e holds legal.
    together face known (after face summaries s e.event) (entry_keeps face known summaries fits s e (sound_of face known s holds) legal)
