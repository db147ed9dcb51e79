use Rattle.std.proofs.Common.{refl, subst}
use Rattle.std.proofs.lemmas.Bool.{false≢true}
use Rattle.plain_solve.specs.QueueFacts.{AnswersOutcome}
use Rattle.plain_solve.proofs.LeastLemmas.{consistent, over_excludes, closes_excludes}
use Rattle.plain_solve.proofs.least.plain_from.Goals as goal

pub returns-in-AtRest-clause-exactly : goal.returns-in-AtRest-clause-exactly
returns-in-AtRest-clause-exactly c =
    let g = c.in_ok-graph.graph in
    let s = c.relax.new.labels in
    let e = c.in_ok-graph.ensures in
    let keeps = subst (AnswersOutcome g s) c.in-AtRest.is c.in_ok-relax.ensures.answer in
    (λ t. consistent c.args.net.now c.args.source.0 g e.graph e.turned s.times.items s.last_arcs.items s.raises c.relax.ensures.forced keeps, λ s. refl)

pub returns-in-Over-clause-exactly : goal.returns-in-Over-clause-exactly
returns-in-Over-clause-exactly c =
    let g = c.in_ok-graph.graph in
    let s = c.relax.new.labels in
    let e = c.in_ok-graph.ensures in
    let over = subst (AnswersOutcome g s) c.in-Over.is c.in_ok-relax.ensures.answer in
    (λ t. absurd (false≢true t), λ k. absurd (over_excludes c.args.net.now c.args.source.0 g e.graph e.turned s c.relax.ensures.forced c.in-Over.field-0 over k))

pub returns-clause-exactly : goal.returns-clause-exactly
returns-clause-exactly c =
    let g = c.in_ok-graph.graph in
    let s = c.relax.new.labels in
    let e = c.in_ok-graph.ensures in
    let closed = subst (AnswersOutcome g s) c.in-Closes.is c.in_ok-relax.ensures.answer in
    (λ t. absurd (false≢true t), λ k. absurd (closes_excludes c.args.net.now c.args.source.0 g e.graph e.turned c.in-Closes.field-0.items closed k))
