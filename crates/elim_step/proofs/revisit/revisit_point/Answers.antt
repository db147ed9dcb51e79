use Rattle.elim_step.proofs.Revisits.{revisits}
use Rattle.elim_step.proofs.revisit.revisit_point.Goals as goal

pub returns-clause-cells : goal.returns-clause-cells
returns-clause-cells g c =
    revisits (g.R.Rows.at c.args.forward.now) c.args.k c.args.later.now
    (g.R.Rows.at c.args.finals.now) _ c.requires.others c.requires.fresh c.revisit_places.ensures.cells
