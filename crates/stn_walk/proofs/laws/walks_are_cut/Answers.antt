use Rattle.stn_walk.proofs.Cuts.{simple_or_cut}
use Rattle.stn_walk.proofs.laws.walks_are_cut.Goals as goal

pub returns : goal.returns
returns c = λ list i j ns w. simple_or_cut list i j ns w
