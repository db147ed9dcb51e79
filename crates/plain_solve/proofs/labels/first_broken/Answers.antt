use Rattle.std.proofs.Common.{below_more, arith}
use Rattle.std.proofs.lemmas.Int.{ints}
use Rattle.std.proofs.lemmas.Bool.{false≢true}
use Rattle.plain_solve.specs.LabelFacts.{IsBroken, Holds}
use Rattle.plain_solve.proofs.Ends.{holds_unless}
use Rattle.plain_solve.proofs.labels.first_broken.Goals as goal

pub loop-n-preserved : goal.loop-n-preserved
loop-n-preserved c =
    below_more (Holds c.args.graph.now c.args.labels.now) c.loop-n.n c.loop-n.invariant
    (holds_unless c.args.graph.now c.args.labels.now c.loop-n.n (λ broken. false≢true (c.if-is_broken.ensures.1 broken)))
