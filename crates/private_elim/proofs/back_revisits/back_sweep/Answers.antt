use Rattle.std.proofs.Common.{sym, subst}
use Rattle.std.proofs.lemmas.Result.{IfOk-weaker}
use Rattle.private_elim.specs.ReducedViews.{ReducedView}
use Rattle.private_elim.specs.Parts.{HasPart}
use Rattle.private_elim.specs.Backs.{IsPrivatePair, HoldsFinals}
use Rattle.private_elim.specs.Throughs.{CameThrough}
use Rattle.private_elim.proofs.back_revisits.back_sweep.Goals as goal

pub returns-clause-only : goal.returns-clause-only
returns-clause-only c =
    IfOk-weaker c.bounds.result _ _
    (λ b only i j some. subst (λ (r : ReducedView). IsPrivatePair r i j) c.reduced.view_is (only c.reduced.inside.summary i j some))
    c.bounds.ensures.only

pub returns-clause-least : goal.returns-clause-least
returns-clause-least c =
    IfOk-weaker c.bounds.result _ _
    (λ b least net valid part holds i j pair.
    least net valid (subst (λ (r : ReducedView). HasPart net r.local) (sym c.reduced.view_is) part)
    (subst (λ (r : ReducedView). HoldsFinals net r.local.agent c.args.finals.now) (sym c.reduced.view_is) holds)
    c.reduced.inside.summary i j (subst (λ (r : ReducedView). IsPrivatePair r i j) (sym c.reduced.view_is) pair))
    c.bounds.ensures.least

pub returns-clause-through : goal.returns-clause-through
returns-clause-through c =
    IfOk-weaker c.bounds.result _ _
    (λ b through i j some. subst (λ (r : ReducedView). CameThrough r c.args.finals.now b i j) c.reduced.view_is
    (through c.reduced.inside.summary (rw (← c.reduced.view_is) at c.summary-summary.ensures.reduced) i j some))
    c.bounds.ensures.through
