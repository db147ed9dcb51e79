use Rattle.elim_step.specs.Picks.{Finds}
use Rattle.elim_step.proofs.pick.Picker.pick.Given as goal

abbrev pub invariant-loop-i : goal.invariant-loop-i
invariant-loop-i g l =
    Finds (λ degree number answer. (goal.Fn-dyn g).post (l.self.key.vtable, l.self.key.value) (degree, (number, tt)) answer) l.candidates l.i l.found
