use Rattle.std.proofs.Common.{arith, sym, ◌∙◌}
use Rattle.elim_step.proofs.Blocks.{below-more}
use Rattle.elim_step.proofs.step.negative_with.Goals as goal

pub loop-n-preserved : goal.loop-n-preserved
loop-n-preserved g c =
    let f = g.R.Rows.at c.args.rows.now in
    let was = c.loop-n.invariant in
    record {
      none = below-more c.args.remain.now f c.args.k c.loop-n.from c.in-Some.n was.none c.in-Some.ensures.least
          (sym c.is_below.ensures ∙ c.if-is_below.false);
      within = (let l = c.in-Some.ensures.some.1 in omega arith);
    }
