use Rattle.std.proofs.Common.{true}
use Rattle.stn_walk.proofs.Distances.{no_negative_consistent, consistent_no_negative}
use Rattle.stn_walk.proofs.laws.no_negative_is_consistent.Goals as goal

pub returns : goal.returns
returns c = λ points arcs below. (λ h. no_negative_consistent points arcs below h, λ s. consistent_no_negative points arcs s (λ _. true))
