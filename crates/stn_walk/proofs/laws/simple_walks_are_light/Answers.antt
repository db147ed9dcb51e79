use Rattle.stn_walk.proofs.Magnitude.{simple_light}
use Rattle.stn_walk.proofs.laws.simple_walks_are_light.Goals as goal

pub returns : goal.returns
returns c = λ list points i j ns within w s. simple_light list points within i j ns w s
