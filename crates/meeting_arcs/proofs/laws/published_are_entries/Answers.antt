use Rattle.meeting_arcs.proofs.Agreements.{published_entries}
use Rattle.meeting_arcs.proofs.laws.published_are_entries.Goals as goal

pub returns : goal.returns
returns c = λ net summaries h. published_entries net summaries h
