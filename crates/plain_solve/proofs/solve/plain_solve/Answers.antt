use Rattle.std.proofs.Common.{sym, subst, List, ℤ}
use Rattle.plain_solve.specs.Answers.{IsEarliest}
use Rattle.plain_solve.specs.QueueFacts.{AnswersOutcome}
use Rattle.plain_solve.proofs.Ends.{earliest}
use Rattle.plain_solve.proofs.solve.plain_solve.Goals as goal

pub returns-in-AtRest-clause-earliest : goal.returns-in-AtRest-clause-earliest
returns-in-AtRest-clause-earliest c =
    let net = c.args.net.now in
    let g = c.in_ok-graph.graph in
    let s = c.relax.new.labels in
    let keeps = subst (AnswersOutcome g s) c.in-AtRest.is c.in_ok-relax.ensures.answer in
    subst (IsEarliest net) (sym c.in_ok-schedule-in-AtRest.ensures)
    (earliest g s.times.items s.last_arcs.items s.raises c.relax.ensures.forced net c.in_ok-graph.ensures.onward keeps)
