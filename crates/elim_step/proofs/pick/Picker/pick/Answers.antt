use Rattle.elim_step.proofs.Finds.{finds_more}
use Rattle.elim_step.proofs.pick.Picker.pick.Goals as goal

pub loop-i-preserved : goal.loop-i-preserved
loop-i-preserved g c =
    finds_more _ c.args.candidates.now c.loop-i.i c.loop-i.found _ c.rank.result c.loop-i.invariant c.rank.ensures.key c.rank.ensures.number
    c.or_found-found.ensures
