use Rattle.shared_graph.proofs.cells.Steps.{eliminate_lowers}
use Rattle.shared_graph.proofs.laws.eliminations_lower.Goals as goal

pub returns : goal.returns
returns c = λ face summaries s k fresh i j. eliminate_lowers face summaries s k fresh i j
