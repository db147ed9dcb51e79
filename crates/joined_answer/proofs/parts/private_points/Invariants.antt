use Rattle.joined_answer.proofs.Listings.{ArePointsBelow}
use Rattle.joined_answer.proofs.parts.private_points.Given as goal

abbrev pub invariant-loop-part : goal.invariant-loop-part
invariant-loop-part l = ArePointsBelow l.reduced l.part-index l.private.items
