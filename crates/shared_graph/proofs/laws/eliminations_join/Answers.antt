use Rattle.shared_graph.proofs.cells.Steps.{eliminate_joins}
use Rattle.shared_graph.proofs.laws.eliminations_join.Goals as goal

pub returns : goal.returns
returns c = λ face summaries s k fresh i j. eliminate_joins face summaries s k fresh i j
