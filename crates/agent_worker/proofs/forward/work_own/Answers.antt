use Rattle.std.proofs.Common.{◌≡◌, ◌<◌, length, ap, ◌∙◌, get_or, arith}
use Rattle.std.proofs.lemmas.Option.{get_or_from_slice_get}
use Rattle.private_elim.specs.Locals.{LocalView, all_numbered}
use Rattle.agent_worker.proofs.Workings.{work_of, numbered_at}
use Rattle.agent_worker.proofs.forward.work_own.Goals as goal

pub returns : goal.returns
returns g c = λ l there.
    let d = c.index-locals-agent.result in
    let is : d ≡ l =
    c.index-locals-agent.is ∙ ap (λ i. get_or c.args.locals.now i d) c.agent.ensures
    ∙ get_or_from_slice_get c.args.locals.now c.args.pass.agent l d there in
    work_of _ d l c.work.result.result is c.work.ensures

pub work-requires : goal.work-requires
work-requires g c =
    let d = c.index-locals-agent.result in
    let locals = c.args.locals.now in
    let low : c.agent.result.0 < length locals =
    (let one = c.requires.one_each in let within = c.args.pass.in_range in let same = c.agent.ensures in omega arith) in
    record {
      numbered = ap (λ (v : LocalView). all_numbered v.arcs) c.index-locals-agent.is ∙ numbered_at locals c.agent.result.0 d c.requires.numbered low;
    }
