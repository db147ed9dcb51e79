use Rattle.std.proofs.Common.{rules, ◌≡◌, ◌<◌, Some, length, ap, sym, ◌∙◌}
use Rattle.std.specs.Prelude.{slice_get}
use Rattle.std.proofs.lemmas.List.{length-map}
use Rattle.private_elim.specs.Locals.{LocalView}
use Rattle.agent_worker.specs.Works.{IsWork}
use Rattle.agent_worker.proofs.Workings.{mapped, are_works}
use Rattle.agent_worker.proofs.forward.run_desk.Goals as goal

pub returns : goal.returns
returns g c =
    let done = c.in_ok-done.done.items in
    let passes = c.in_ok-desk.passes.items in
    let locals = c.args.locals.now in
    are_works _ locals c.in_ok-passes.results.items
    (let many : length done ≡ length locals = search (rules, c.in_ok-done.ensures.len, c.in_ok-desk.ensures.len, c.requires.one_each) in
    ap length c.in_ok-passes.ensures.results ∙ length-map done (λ w. w.result) ∙ many)
    (rw c.in_ok-passes.ensures.results
    (mapped (λ w. w.result) (λ i w. (v : LocalView) → slice_get locals i ≡ Some v → IsWork _ v w) done
    (λ k d low.
    let in_range : k < length passes = search rules in
    let job = (c.in_ok-done.ensures.each k d in_range).1 in
    let at_k = (c.in_ok-desk.ensures.each k job.job (search rules)).0 in
    λ v there. job.call.met v (ap (λ n. slice_get locals n) (ap (λ p. p.agent) (sym (job.job_is job.job)) ∙ at_k) ∙ there))))
