use Rattle.std.proofs.Common.{◌≡◌, ◌||◌, true, ap, sym, ◌∙◌}
use Rattle.elim_step.specs.Summaries.{entry_in}
use Rattle.reduction_tests.proofs.Listed.{weight_there}
use Rattle.reduction_tests.proofs.calls.walk_of.Goals as goal

pub walk-requires : goal.walk-requires
walk-requires c =
    let r = c.args.reduced.now in
    let entry = c.weight-entry.ensures ∙ ap (λ es. entry_in es c.args.i c.args.j) c.summary.ensures.value in
    weight_there r c.args.i c.args.j c.weight-entry.result c.forward-forward.result entry c.forward-forward.ensures.same c.forward-forward.ensures.least
    (sym (c.if-not-either.ensures ∙ (λ t. c.is_some.ensures t || c.is_some-2.ensures t)))
