use Rattle.elim_step.proofs.Unfolding.{starts, there_ahead, step, falls}
use Rattle.elim_step.proofs.leaves.unfold.Goals as goal

pub loop-segment-init : goal.loop-segment-init
loop-segment-init g c =
    let within = (rw c.requires.1.0 at c.requires.1.1.0) in
    rw (c.new-leaves.ensures.items, c.in_ok-ahead.ensures.items)
    (starts g.places.points g.places.es (g.R.Rows.at c.args.rows.now) c.args.from c.args.to within.0 within.1 c.requires.1.1.1.0)

pub unfold_segment-requires-clause-within : goal.unfold_segment-requires-clause-within
unfold_segment-requires-clause-within g c =
    let here = rw c.in-Some.ensures.items at c.loop-segment.invariant.each in
    let next = there_ahead g.places.points g.places.es (g.R.Rows.at c.args.rows.now) c.args.to c.pop.new.self.items c.in-Some.segment here in
    rw c.requires.1.0 (next.0, next.1)

pub unfold_segment-requires-clause-there : goal.unfold_segment-requires-clause-there
unfold_segment-requires-clause-there g c =
    let here = rw c.in-Some.ensures.items at c.loop-segment.invariant.each in
    (there_ahead g.places.points g.places.es (g.R.Rows.at c.args.rows.now) c.args.to c.pop.new.self.items c.in-Some.segment here).2

pub loop-segment-smaller : goal.loop-segment-smaller
loop-segment-smaller g c =
    let here = rw c.in-Some.ensures.items at c.loop-segment.invariant.each in
    rw c.in-Some.ensures.items
    (falls g.places.points g.places.es (g.R.Rows.at c.args.rows.now) c.requires.1.1.1.1 c.args.to c.loop-segment.leaves.items c.unfold_segment.new.leaves.items
    c.pop.new.self.items c.unfold_segment.new.ahead.items c.in-Some.segment c.in_ok-unfold_segment.ensures here)

pub loop-segment-preserved : goal.loop-segment-preserved
loop-segment-preserved g c =
    let here = rw c.in-Some.ensures.items at c.loop-segment.invariant in
    step g.places.points g.places.es (g.R.Rows.at c.args.rows.now) c.requires.1.1.1.1 c.args.to c.loop-segment.leaves.items c.unfold_segment.new.leaves.items
    c.pop.new.self.items c.unfold_segment.new.ahead.items c.in-Some.segment c.in_ok-unfold_segment.ensures c.args.from here
