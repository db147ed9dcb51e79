use Rattle.std.proofs.Common.{sym}
use Rattle.claim_pass.proofs.Claims.{claim_of_read}
use Rattle.claim_pass.proofs.lent.claim_lent.Goals as goal

pub returns-clause-answer : goal.returns-clause-answer
returns-clause-answer g c =
    claim_of_read _ c.args.agent c.args.shared.now c.eliminate_picked.new.shared c.eliminate_picked.result (sym c.in_default.ensures.value)
    c.as_slice.result.now c.in_ok-candidates.candidates.items c.in-Some-pick.place c.index.result.now c.as_slice.ensures.value
    c.in_ok-candidates.ensures c.index.ensures c.in-Some-pick.ensures c.eliminate_picked.ensures.answer
