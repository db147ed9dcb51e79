use Rattle.stn_model.proofs.WalkLemmas.{IsWalk-append, weight-append}
use Rattle.stn_walk.proofs.laws.weights_add.Goals as goal

pub returns : goal.returns
returns c = λ list i j k xs ys p q. (IsWalk-append list i j k xs ys p q, weight-append list xs ys)
