use Rattle.std.proofs.Common.{◌++◌, ◌∷◌, [], ap, ◌∙◌, arith}
use Rattle.shared_graph.specs.Interfaces.{Summary}
use Rattle.conflict_cycle.proofs.ReducedParts.{tell_more, summaries_fit}
use Rattle.conflict_cycle.proofs.tests.summaries_of.Goals as goal

pub loop-part-preserved : goal.loop-part-preserved
loop-part-preserved c =
    let old = c.loop-part.summaries.items in
    let told = c.in_ok-copy.ensures ∙ c.summary.ensures.value in
    tell_more c.args.net.now c.args.reduced.now c.requires.valid c.requires.reduced c.loop-part.part-index c.part-item.result old c.push.new.self.items
    c.loop-part-test.true c.part-item.is (c.in_ok-push.ensures.items ∙ ap (λ (s : Summary). old ++ s ∷ []) told) c.summary.ensures.reduced
    c.loop-part.invariant

pub returns-clause-fitting : goal.returns-clause-fitting
returns-clause-fitting c =
    (summaries_fit c.args.net.now c.args.reduced.now c.loop-part.part-index c.loop-part.summaries.items (omega arith) c.loop-part.invariant).1
