use Rattle.shared_graph.proofs.times.Decouplings.{boxes_decouple}
use Rattle.shared_graph.proofs.times_laws.boxes_decouple.Goals as goal

pub returns : goal.returns
returns c = λ net valid summaries right es s is set. boxes_decouple net valid summaries right es s is set
