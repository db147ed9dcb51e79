use Rattle.conflict_cycle.proofs.OrderPlaces.{AreSet}
use Rattle.conflict_cycle.proofs.edges.places_in.Given as goal

abbrev pub invariant-back : goal.invariant-back
invariant-back l = AreSet l.points l.order l.place l.places.items

abbrev pub decreases-back : goal.decreases-back
decreases-back l = l.place
