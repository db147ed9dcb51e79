use Rattle.shared_graph.proofs.cells.Steps.{revisit_keeps}
use Rattle.shared_graph.proofs.laws.revisits_keep.Goals as goal

pub returns : goal.returns
returns c = λ face summaries s k i j i_k j_k. revisit_keeps face summaries s k i j i_k j_k
