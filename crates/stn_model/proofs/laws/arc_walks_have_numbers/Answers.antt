use Rattle.std.proofs.Common.{true}
use Rattle.stn_model.proofs.Bridges.{numbers_of}
use Rattle.stn_model.proofs.laws.arc_walks_have_numbers.Goals as goal

pub returns : goal.returns
returns c = λ arcs i j w g. numbers_of arcs (λ _. true) i j w g
