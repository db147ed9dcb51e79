use Rattle.std.proofs.Common.{sym, subst}
use Rattle.shared_graph.specs.declared.events.Phase.TheVariants.{Order}
use Rattle.shared_graph.specs.Journals.{IsFinished}
use Rattle.shared_graph.proofs.graphs.Finishing.{finished_join}
use Rattle.shared_graph.proofs.shared.Shared.finish.Goals as goal

pub returns-in_ok-publish_all-in-Order-clause-finished : goal.returns-in_ok-publish_all-in-Order-clause-finished
returns-in_ok-publish_all-in-Order-clause-finished c =
    let mid = c.publish_all.ensures.finished in
    subst (λ phase. IsFinished c.args.summaries.now phase c.args.self.now c.eliminate_all.new.self) (sym c.in-Order.is)
    (finished_join c.args.summaries.now Order c.args.self.now c.publish_all.new.self c.eliminate_all.new.self mid
    (c.eliminate_all.ensures.finished c.args.summaries.now mid.agree))

pub returns-in-Reverse-clause-finished : goal.returns-in-Reverse-clause-finished
returns-in-Reverse-clause-finished c =
    subst (λ phase. IsFinished c.args.summaries.now phase c.args.self.now c.revisit_all.new.self) (sym c.in-Reverse.is)
    (c.revisit_all.ensures.finished c.args.summaries.now c.requires.agree)
