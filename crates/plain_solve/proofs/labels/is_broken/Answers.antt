use Rattle.std.proofs.Common.{arith, ap, ◌∙◌}
use Rattle.std.proofs.lemmas.Int.{ints}
use Rattle.stn_model.specs.Schedules.{time_at}
use Rattle.plain_solve.proofs.Refutes.{read_arc, read_label}
use Rattle.plain_solve.proofs.labels.is_broken.Goals as goal

pub exceeds-requires : goal.exceeds-requires
exceeds-requires c =
    let s = c.args.labels.now in
    let g = c.args.graph.now in
    let r = read_arc g c.requires.graph c.args.n c.arc-arc.result c.requires.arc c.arc-arc.ensures.arc in
    let h = read_label g s.times.items s.last_arcs.items s.raises c.requires.forced c.requires.graph c.arc-arc.result.to.0 c.index-head.result.now r.to_in c.index-head.ensures in
    let low = h.low in
    let high = h.high in
    let small = h.small in
    let bound_low = r.bound_low in
    let bound_high = r.bound_high in
    record { low = omega (arith, ints); high = omega (arith, ints); bound_low = omega (arith, ints); bound_high = omega (arith, ints) }

pub returns : goal.returns
returns c =
    let s = c.args.labels.now in
    let g = c.args.graph.now in
    let r = read_arc g c.requires.graph c.args.n c.arc-arc.result c.requires.arc c.arc-arc.ensures.arc in
    let h = read_label g s.times.items s.last_arcs.items s.raises c.requires.forced c.requires.graph c.arc-arc.result.to.0 c.index-head.result.now r.to_in c.index-head.ensures in
    let t = read_label g s.times.items s.last_arcs.items s.raises c.requires.forced c.requires.graph c.arc-arc.result.from.0 c.index-tail.result.now r.from_in c.index-tail.ensures in
    let head = ap (time_at s.times.items) r.to_is ∙ h.label in
    let tail = ap (time_at s.times.items) r.from_is ∙ t.label in
    let bound_is = r.bound_is in
    (λ k. let more = c.exceeds.ensures.0 k in omega (arith, ints), λ k. c.exceeds.ensures.1 (omega (arith, ints)))
