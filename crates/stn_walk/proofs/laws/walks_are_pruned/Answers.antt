use Rattle.stn_walk.proofs.Pruned.{pruned_walk}
use Rattle.stn_walk.proofs.laws.walks_are_pruned.Goals as goal

pub returns : goal.returns
returns c = λ list i j ns w. pruned_walk list i j ns w
