use Rattle.shared_graph.specs.Interfaces.{points_of}
use Rattle.shared_graph.proofs.states.Passing.{listed_in, passing_none, below_none}
use Rattle.shared_graph.proofs.states.Rising.{listed_least, place_least, below_least}
use Rattle.shared_graph.proofs.laws.firsts_are_least.Goals as goal

pub returns : goal.returns
returns c = λ face known test. (
  λ none p there. passing_none test (points_of face) none p (listed_in face.points p there),
  listed_least face known test,
  place_least face known test,
  λ n none. below_none test n none,
  λ n i is. below_least test n i is,
)
