use Rattle.std.proofs.Common.{refl}
use Rattle.shared_graph.proofs.laws.times_stand_apart.Goals as goal

pub returns : goal.returns
returns c = λ face summaries s. (
  λ k value. record {
    published = refl;
    order = refl;
    stop = refl;
    revisited = refl;
    forwards = λ i j. refl;
    joins = λ i j. refl;
    finals = λ i j. refl;
  },
  λ k end. record {
    published = refl;
    order = refl;
    stop = refl;
    revisited = refl;
    forwards = λ i j. refl;
    joins = λ i j. refl;
    finals = λ i j. refl;
  },
)
