use Rattle.std.specs.Prelude.{◌-◌}
use Rattle.std.specs.List.{sum_by}
use Rattle.plain_solve.specs.TrailFacts.{IsFollowed}
use Rattle.plain_solve.proofs.trail.follow.Given as goal

abbrev pub invariant-follow : goal.invariant-follow
invariant-follow l = IsFollowed l.graph l.labels.last_arcs.items l.from l.at l.places.items l.walk.items

abbrev pub decreases-follow : goal.decreases-follow
decreases-follow l = sum_by (λ c. 1 - c) l.places.items
