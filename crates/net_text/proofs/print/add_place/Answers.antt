-- An act's line, or a point's.
use Rattle.std.proofs.Common.{sym, ◌∙◌, arith}
use Rattle.std.proofs.lemmas.Bool.{false≢true}
use Rattle.net_text.proofs.PlaceLines.{act_taken, point_taken, appended}
use Rattle.net_text.proofs.print.add_place.Goals as goal

pub overflow_add-result : goal.overflow_add-result
overflow_add-result c = omega (arith, c.requires.valid.few_points)

pub overflow_add-result-then-starts_here : goal.overflow_add-result-then-starts_here
overflow_add-result-then-starts_here c =
    let starts = c.starts_here.ensures.0 c.if-starts_here.true in omega (arith, c.requires.valid.few_points, c.requires.valid.few_acts, starts.0)

pub returns-then-starts_here-clause-ok : goal.returns-then-starts_here-clause-ok
returns-then-starts_here-clause-ok c =
    appended c.args.out.now.items c.add_act.new.out.items _ _ _ c.in_ok-add_act.ensures.ok
    (act_taken c.args.net.now c.args.place.point c.args.place.act c.requires.not_z c.add_act.ensures.there (c.starts_here.ensures.0 c.if-starts_here.true))

pub overflow_add-result-2 : goal.overflow_add-result-2
overflow_add-result-2 c = omega (arith, c.requires.valid.few_points)

pub returns-clause-ok : goal.returns-clause-ok
returns-clause-ok c =
    appended c.args.out.now.items c.add_point.new.out.items _ _ _ c.in_ok-add_point.ensures.ok
    (point_taken c.args.net.now c.args.place.point c.args.place.act c.requires.not_z c.requires.in_net
    (λ s. false≢true (sym c.if-starts_here.false ∙ c.starts_here.ensures.1 s)))
