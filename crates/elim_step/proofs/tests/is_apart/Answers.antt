use Rattle.std.proofs.Common.{◌≡◌, rules, None}
use Rattle.stn_walk.proofs.Members.{is_in-at, is_in-cases}
use Rattle.elim_step.proofs.tests.is_apart.Goals as goal

pub is_free-requires : goal.is_free-requires
is_free-requires g c = record { within = (c.requires.within, c.requires.all_within _ (is_in-at c.args.later.now c.loop-j.j-index (search rules))) }

pub loop-j-preserved : goal.loop-j-preserved
loop-j-preserved g c =
    let f = g.R.Rows.at c.args.rows.now in
    let k = c.args.k in
    λ j here. is_in-cases {P = (f k j ≡ None) × (f j k ≡ None)} j c.args.later.now c.loop-j.j-index (search rules) here
    (c.loop-j.invariant j)
    (λ e. rw e (c.is_free.ensures (search rules)))
