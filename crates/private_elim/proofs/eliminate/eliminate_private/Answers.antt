use Rattle.std.proofs.lemmas.Result.{IfOk-weaker}
use Rattle.private_elim.specs.Outcomes.{IsPickedOutcome}
use Rattle.private_elim.proofs.taking.Answered.{sound_picked, exactly, cycle_is, private_is, whole_is, summary_is, picks_is, stops_is}
use Rattle.private_elim.proofs.eliminate.eliminate_private.Goals as goal

pub returns-clause-conflict : goal.returns-clause-conflict
returns-clause-conflict g c =
    let v = c.args.local.now in
    IfOk-weaker c.take_picked.result (IsPickedOutcome _ v) _ (λ o h. exactly v o (sound_picked _ v o h))
    (rw c.in_ok-elimination.ensures.local at c.take_picked.ensures)

pub returns-clause-cycle : goal.returns-clause-cycle
returns-clause-cycle g c =
    let v = c.args.local.now in
    IfOk-weaker c.take_picked.result (IsPickedOutcome _ v) _ (λ o h. cycle_is v o (sound_picked _ v o h))
    (rw c.in_ok-elimination.ensures.local at c.take_picked.ensures)

pub returns-clause-stops : goal.returns-clause-stops
returns-clause-stops g c =
    let v = c.args.local.now in
    IfOk-weaker c.take_picked.result (IsPickedOutcome _ v) _ (λ o h. stops_is _ v o h) (rw c.in_ok-elimination.ensures.local at c.take_picked.ensures)

pub returns-clause-private : goal.returns-clause-private
returns-clause-private g c =
    let v = c.args.local.now in
    IfOk-weaker c.take_picked.result (IsPickedOutcome _ v) _ (λ o h. private_is v o (sound_picked _ v o h))
    (rw c.in_ok-elimination.ensures.local at c.take_picked.ensures)

pub returns-clause-whole : goal.returns-clause-whole
returns-clause-whole g c =
    let v = c.args.local.now in
    IfOk-weaker c.take_picked.result (IsPickedOutcome _ v) _ (λ o h. whole_is v o (sound_picked _ v o h))
    (rw c.in_ok-elimination.ensures.local at c.take_picked.ensures)

pub returns-clause-picks : goal.returns-clause-picks
returns-clause-picks g c =
    let v = c.args.local.now in
    IfOk-weaker c.take_picked.result (IsPickedOutcome _ v) _ (λ o h. picks_is _ v o h) (rw c.in_ok-elimination.ensures.local at c.take_picked.ensures)

pub returns-clause-summary : goal.returns-clause-summary
returns-clause-summary g c =
    let v = c.args.local.now in
    IfOk-weaker c.take_picked.result (IsPickedOutcome _ v) _ (λ o h. summary_is v o (sound_picked _ v o h))
    (rw c.in_ok-elimination.ensures.local at c.take_picked.ensures)
