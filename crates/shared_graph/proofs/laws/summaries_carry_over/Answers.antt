use Rattle.shared_graph.proofs.networks.Carried.{summaries_move}
use Rattle.shared_graph.proofs.laws.summaries_carry_over.Goals as goal

pub returns : goal.returns
returns c = λ net other a summaries same sound right own_right. summaries_move net other a summaries same sound right own_right
