use Rattle.std.proofs.Common.{rules}
use Rattle.agent_worker.proofs.BackParts.{if_swept}
use Rattle.agent_worker.proofs.back.back_phase.Goals as goal

pub returns : goal.returns
returns g c =
    let reduced = c.args.reduced.now in
    let swept = c.in_ok-swept.swept.items in
    if_swept (λ l. l.items) c.args.shared.now reduced swept c.all_swept.result (search (rules, c.in_ok-swept.ensures.len))
    c.all_swept.ensures (λ i d low. (c.in_ok-swept.ensures.each i d low).1.met)
