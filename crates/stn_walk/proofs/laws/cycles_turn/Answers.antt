use Rattle.stn_walk.proofs.Rotation.{turn_negative_cycle, weight-turn}
use Rattle.stn_walk.proofs.laws.cycles_turn.Goals as goal

pub returns : goal.returns
returns c = λ list ns k lt n. (turn_negative_cycle list ns k lt n, weight-turn list ns k)
