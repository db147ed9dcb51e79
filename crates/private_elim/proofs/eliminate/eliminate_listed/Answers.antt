use Rattle.std.proofs.Common.{◌≡◌, true, ap, sym, ◌∙◌, map, length, subst}
use Rattle.std.specs.List.{AllByRecursion}
use Rattle.std.proofs.lemmas.List.{length-map}
use Rattle.std.proofs.lemmas.Result.{IfOk-weaker}
use Rattle.stn_model.specs.declared.ids.PointId.{PointId}
use Rattle.stn_walk.proofs.Joins.{is_in-reverse}
use Rattle.private_elim.specs.Locals.{LocalView, is_private_in}
use Rattle.private_elim.specs.Outcomes.{IsListedOutcome}
use Rattle.private_elim.proofs.taking.Answered.{sound_listed, exactly, cycle_is, summary_is, place_is}
use Rattle.private_elim.proofs.eliminate.eliminate_listed.Goals as goal

pub take_listed-requires-clause-private : goal.take_listed-requires-clause-private
take_listed-requires-clause-private c =
    subst (λ (v : LocalView). AllByRecursion (λ (p : PointId). is_private_in v p.0 ≡ true) c.args.order.now)
    (sym c.in_ok-elimination.ensures.local) c.requires.private

pub take_listed-requires-clause-whole : goal.take_listed-requires-clause-whole
take_listed-requires-clause-whole c =
    λ p private. is_in-reverse (map (λ (p : PointId). p.0) c.args.order.now) p
    ∙ c.requires.whole p (ap (λ (v : LocalView). is_private_in v p) (sym c.in_ok-elimination.ensures.local) ∙ private)

pub returns-clause-conflict : goal.returns-clause-conflict
returns-clause-conflict c =
    let v = c.args.local.now in
    let xs = map (λ (p : PointId). p.0) c.args.order.now in
    IfOk-weaker c.take_listed.result (IsListedOutcome v xs) _ (λ o h. exactly v o (sound_listed v xs o h))
    (rw c.in_ok-elimination.ensures.local at c.take_listed.ensures)

pub returns-clause-cycle : goal.returns-clause-cycle
returns-clause-cycle c =
    let v = c.args.local.now in
    let xs = map (λ (p : PointId). p.0) c.args.order.now in
    IfOk-weaker c.take_listed.result (IsListedOutcome v xs) _ (λ o h. cycle_is v o (sound_listed v xs o h))
    (rw c.in_ok-elimination.ensures.local at c.take_listed.ensures)

pub returns-clause-place : goal.returns-clause-place
returns-clause-place c =
    let v = c.args.local.now in
    let xs = map (λ (p : PointId). p.0) c.args.order.now in
    IfOk-weaker c.take_listed.result (IsListedOutcome v xs) _
    (λ o h. place_is v xs (length c.args.order.now) o (length-map c.args.order.now (λ (p : PointId). p.0)) h)
    (rw c.in_ok-elimination.ensures.local at c.take_listed.ensures)

pub returns-clause-summary : goal.returns-clause-summary
returns-clause-summary c =
    let v = c.args.local.now in
    let xs = map (λ (p : PointId). p.0) c.args.order.now in
    IfOk-weaker c.take_listed.result (IsListedOutcome v xs) _ (λ o h. summary_is v o (sound_listed v xs o h))
    (rw c.in_ok-elimination.ensures.local at c.take_listed.ensures)
