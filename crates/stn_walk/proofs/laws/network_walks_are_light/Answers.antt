use Rattle.stn_walk.proofs.Magnitude.{network_light}
use Rattle.stn_walk.proofs.laws.network_walks_are_light.Goals as goal

pub returns : goal.returns
returns c = λ net i j ns valid w s. network_light net valid i j ns w s
