use Rattle.std.proofs.Common.{sym, ap, subst, ◌∙◌}
use Rattle.std.proofs.lemmas.Bool.{false≢true}
use Rattle.elim_step.specs.Summaries.{is_summary}
use Rattle.private_elim.specs.ReducedViews.{IsReduced}
use Rattle.private_elim.proofs.summary.SumsUp.{rows_are_summary, rows_reduce}
use Rattle.private_elim.proofs.summarise.summarise.Goals as goal

-- the entries are a summary
pub unreachable-requires : goal.unreachable-requires
unreachable-requires c =
    false≢true (c.in_default.ensures.valid.1
    (ap is_summary c.in_ok-entries.ensures.entries ∙ rows_are_summary c.args.elimination c.in_ok-entries.ensures.taken))

-- the agent's
pub invariant_of-result : goal.invariant_of-result
invariant_of-result c =
    subst (IsReduced c.args.elimination.local c.args.elimination.order) (sym (c.in-Some.ensures.value ∙ c.in_ok-entries.ensures.entries))
    (rows_reduce c.args.elimination c.in_ok-entries.ensures.taken c.requires.whole)
