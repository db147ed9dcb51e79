use Rattle.mastn.proofs.Solving.{says_consistent}
use Rattle.mastn.proofs.solve.solve_by.Goals as goal

pub returns-in-Consistent : goal.returns-in-Consistent
returns-in-Consistent g c =
    let legal = rw c.in-Consistent.is at c.in_ok-solved.ensures.section in
    let picked = rw c.in-Consistent.is at c.in_ok-solved.ensures.picked in
    let text = c.in_ok-text-in-Consistent in
    says_consistent c.args.pick _ c.args.net.now c.in-Consistent.joined.section c.args.commands.now text.text.items text.ensures.report.0
    (λ degree number key answer. c.requires.keys degree number key (rw c.new-picker.ensures at answer))
    text.ensures.consistent legal picked text.ensures.report.1 text.ensures.report.2
