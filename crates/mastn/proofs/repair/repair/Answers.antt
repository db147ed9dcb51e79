use Rattle.std.proofs.lemmas.Result.{IfOk-weaker}
use Rattle.mastn.specs.Checks.{Checks}
use Rattle.mastn.specs.Repairs.{Repairs}
use Rattle.mastn.proofs.Answering.{Repairs-consistent}
use Rattle.mastn.proofs.repair.repair.Goals as goal

pub returns-in-Consistent : goal.returns-in-Consistent
returns-in-Consistent c =
    let net = c.args.net.now in
    let earliest = rw c.in-Consistent.is at c.in_ok-schedule.ensures.earliest in
    IfOk-weaker c.consistent.result (λ a. Checks net a.outcome a.text.items) (λ a. Repairs net a.outcome a.text.items)
    (λ a h. Repairs-consistent net c.in-Consistent.schedule earliest a.outcome a.text.items h)
    c.consistent.ensures
