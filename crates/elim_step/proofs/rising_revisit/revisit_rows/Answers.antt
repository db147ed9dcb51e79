use Rattle.std.proofs.Common.{get_or}
use Rattle.stn_walk.proofs.Members.{is_in-at}
use Rattle.elim_step.proofs.Revisits.{revisits}
use Rattle.elim_step.proofs.rising_revisit.revisit_rows.Goals as goal

pub revisit_blocks-requires-clause-within : goal.revisit_blocks-requires-clause-within
revisit_blocks-requires-clause-within g c =
    let j = get_or c.args.later.now 0 0 in
    (g.met.R.Rows.room_is_within c.args.finals.now c.args.k j (c.requires.room_out j (is_in-at c.args.later.now 0 c.requires.some))).0

pub revisit_blocks-requires-clause-forward_later : goal.revisit_blocks-requires-clause-forward_later
revisit_blocks-requires-clause-forward_later g c = λ m l. (c.requires.all_within _ (is_in-at c.args.later.now m l)).0

pub revisit_blocks-requires-clause-later_within : goal.revisit_blocks-requires-clause-later_within
revisit_blocks-requires-clause-later_within g c = λ m l. (c.requires.all_within _ (is_in-at c.args.later.now m l)).1

pub returns-clause-cells : goal.returns-clause-cells
returns-clause-cells g c =
    revisits (g.R.Rows.at c.args.forward.now) c.args.k c.args.later.now
    (g.R.Rows.at c.args.finals.now) _ c.requires.others c.requires.fresh c.revisit_blocks.ensures.cells
