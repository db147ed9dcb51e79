use Rattle.std.proofs.Common.{◌+◌, ◌-◌, length}
use Rattle.conflict_cycle.specs.Edges.{IsGap, place_of, whole_order}
use Rattle.conflict_cycle.proofs.edges.least_walk.Given as goal

abbrev pub ghost-narrow : goal.ghost-narrow
ghost-narrow a = a.net.now

abbrev pub invariant-unfolding : goal.invariant-unfolding
invariant-unfolding l = IsGap l.net (whole_order l.parts) l.fn.i.0 l.fn.j.0 l.gap.from.0 l.gap.to.0 l.gap.before.items l.gap.after.items

abbrev pub decreases-unfolding : goal.decreases-unfolding
decreases-unfolding l =
    (length (whole_order l.parts) + length (whole_order l.parts))
    - (place_of (whole_order l.parts) l.gap.from.0 + place_of (whole_order l.parts) l.gap.to.0)
