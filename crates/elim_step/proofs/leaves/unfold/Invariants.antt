use Rattle.elim_step.specs.Unfolds.{IsUnfolding, segments_size}
use Rattle.elim_step.proofs.leaves.unfold.Given as goal

abbrev pub invariant-loop-segment : goal.invariant-loop-segment
invariant-loop-segment g l = IsUnfolding g.places.points g.places.es (g.R.Rows.at l.rows) l.from l.to l.leaves.items l.ahead.items

abbrev pub decreases-loop-segment : goal.decreases-loop-segment
decreases-loop-segment g l = segments_size g.places.points g.places.es (g.R.Rows.at l.rows) l.ahead.items
