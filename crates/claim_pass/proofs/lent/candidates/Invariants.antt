use Rattle.std.specs.Prelude.{◌≡◌, ◌++◌, drop}
use Rattle.claim_pass.specs.Lent.{candidates_in}
use Rattle.claim_pass.proofs.Offers.{taken_from}
use Rattle.claim_pass.proofs.lent.candidates.Given as goal

-- with those of the points that are left they are all
abbrev pub invariant-loop-point : goal.invariant-loop-point
invariant-loop-point l =
    l.candidates.items ++ taken_from l.shared.face l.shared.state (drop l.point-index l.own)
    ≡ candidates_in l.shared.face l.shared.state l.fn.agent.0
