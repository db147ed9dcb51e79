use Rattle.std.proofs.lemmas.Result.{IfOk-weaker}
use Rattle.agent_worker.specs.Forwards.{Came}
use Rattle.agent_worker.proofs.Comings.{conflict_is, least_is, cycle_is, normal_is, stopped_is, whole_is, reduced_is, stands_is, face_is, published_is}
use Rattle.agent_worker.proofs.Comings.{stop_is, done_is, steps_are}
use Rattle.agent_worker.proofs.forward.forward_phase.Goals as goal

pub returns-clause-conflict : goal.returns-clause-conflict
returns-clause-conflict g c =
    IfOk-weaker c.take_all.result (Came _ c.args.interface c.args.locals.now) _ (λ f h. conflict_is _ c.args.interface c.args.locals.now f h) c.take_all.ensures

pub returns-clause-least : goal.returns-clause-least
returns-clause-least g c =
    IfOk-weaker c.take_all.result (Came _ c.args.interface c.args.locals.now) _ (λ f h. least_is _ c.args.interface c.args.locals.now f h) c.take_all.ensures

pub returns-clause-cycle : goal.returns-clause-cycle
returns-clause-cycle g c =
    IfOk-weaker c.take_all.result (Came _ c.args.interface c.args.locals.now) _ (λ f h. cycle_is _ c.args.interface c.args.locals.now f h) c.take_all.ensures

pub returns-clause-normal : goal.returns-clause-normal
returns-clause-normal g c =
    IfOk-weaker c.take_all.result (Came _ c.args.interface c.args.locals.now) _ (λ f h. normal_is _ c.args.interface c.args.locals.now f h) c.take_all.ensures

pub returns-clause-stopped : goal.returns-clause-stopped
returns-clause-stopped g c =
    IfOk-weaker c.take_all.result (Came _ c.args.interface c.args.locals.now) _ (λ f h. stopped_is _ c.args.interface c.args.locals.now f h) c.take_all.ensures

pub returns-clause-whole : goal.returns-clause-whole
returns-clause-whole g c =
    IfOk-weaker c.take_all.result (Came _ c.args.interface c.args.locals.now) _ (λ f h. whole_is _ c.args.interface c.args.locals.now f h) c.take_all.ensures

pub returns-clause-reduced : goal.returns-clause-reduced
returns-clause-reduced g c =
    IfOk-weaker c.take_all.result (Came _ c.args.interface c.args.locals.now) _ (λ f h. reduced_is _ c.args.interface c.args.locals.now f h) c.take_all.ensures

pub returns-clause-stands : goal.returns-clause-stands
returns-clause-stands g c =
    IfOk-weaker c.take_all.result (Came _ c.args.interface c.args.locals.now) _ (λ f h. stands_is _ c.args.interface c.args.locals.now f h) c.take_all.ensures

pub returns-clause-face : goal.returns-clause-face
returns-clause-face g c =
    IfOk-weaker c.take_all.result (Came _ c.args.interface c.args.locals.now) _ (λ f h. face_is _ c.args.interface c.args.locals.now f h) c.take_all.ensures

pub returns-clause-published : goal.returns-clause-published
returns-clause-published g c =
    IfOk-weaker c.take_all.result (Came _ c.args.interface c.args.locals.now) _ (λ f h. published_is _ c.args.interface c.args.locals.now f h) c.take_all.ensures

pub returns-clause-stop : goal.returns-clause-stop
returns-clause-stop g c =
    IfOk-weaker c.take_all.result (Came _ c.args.interface c.args.locals.now) _ (λ f h. stop_is _ c.args.interface c.args.locals.now f h) c.take_all.ensures

pub returns-clause-done : goal.returns-clause-done
returns-clause-done g c =
    IfOk-weaker c.take_all.result (Came _ c.args.interface c.args.locals.now) _ (λ f h. done_is _ c.args.interface c.args.locals.now f h) c.take_all.ensures

pub returns-clause-steps : goal.returns-clause-steps
returns-clause-steps g c =
    IfOk-weaker c.take_all.result (Came _ c.args.interface c.args.locals.now) _ (λ f h. steps_are _ c.args.interface c.args.locals.now f h) c.take_all.ensures
