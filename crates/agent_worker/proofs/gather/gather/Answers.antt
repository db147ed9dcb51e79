use Rattle.std.proofs.Common.{rules, ℕ, length, ◌≡◌, ◌<◌, ◌∷◌, true, Some, ap, sym, ◌∙◌, subst}
use Rattle.std.specs.Prelude.{slice_get, is_some, IfSome}
use Rattle.std.specs.Vec.Iter.{into_iter_items}
use Rattle.agent_worker.specs.declared.worker.WorkerResult.{WorkerResult}
use Rattle.agent_worker.specs.declared.worker.WorkerResult.TheVariants.{PrivateConflict}
use Rattle.agent_worker.specs.Works.{part_of}
use Rattle.agent_worker.proofs.Gathers.{IsGathering, one_more, first_conflict}
use Rattle.agent_worker.proofs.gather.gather.Goals as goal

pub loop-worked-preserved : goal.loop-worked-preserved
loop-worked-preserved c =
    let results = c.args.results.items in
    let parts = c.loop-worked.parts.items in
    let before = subst (λ xs. IsGathering results xs parts) c.in-Some.ensures.steps.0 c.loop-worked.invariant in
    one_more results (into_iter_items c.next.new.self) c.in-Some.worked parts c.push.new.self.items c.in-Ok.reduced before c.in-Ok.ensures
    c.in_ok-push-in-Ok.ensures.items

pub returns-in-Err-Some : goal.returns-in-Err-Some
returns-in-Err-Some c =
    let results = c.args.results.items in
    let parts = c.loop-worked.parts.items in
    let rest = into_iter_items c.next.new.self in
    let walk = c.in-Err-Some.walk in
    let is : c.in-Some.worked ≡ PrivateConflict walk =
    subst (λ o. IfSome o (λ w. c.in-Some.worked ≡ PrivateConflict w)) c.in-Err-Some.field-0-is c.in-Err-Some.ensures in
    let first = c.in-Some.ensures.steps.0 ∙ ap (λ w. w ∷ rest) is in
    let before = subst (λ xs. IsGathering results xs parts) first c.loop-worked.invariant in
    let many : c.len-in-Err-Some.result ≡ length parts = search (rules, c.len-in-Err-Some.ensures) in
    subst (λ n. (slice_get results n ≡ Some (PrivateConflict walk))
    × ((a : ℕ) (w : WorkerResult) → a < n → slice_get results a ≡ Some w → is_some (part_of w) ≡ true))
    (sym many) (first_conflict results rest walk parts before)
