use Rattle.std.proofs.Common.{◌≡◌, length, ◌<◌, ◌≤◌, ℕ, List, Option, ℤ}
use Rattle.private_elim.specs.Locals.{arcs_in, IsLocal}
use Rattle.dispatcher.proofs.Fillings.{IsFilling}
use Rattle.dispatcher.proofs.plan.Plan.complete.Given as goal

-- the local network and the lean stay, and the points before the place are filled
abbrev pub invariant-loop-place : goal.invariant-loop-place
invariant-loop-place g l =
    (l.self.local ≡ l.initial.self.local)
    × (l.self.lean ≡ l.initial.self.lean)
    × IsFilling (λ lean lo hi t. (goal.Fn-dyn g).post (l.chooser.choose.vtable, l.chooser.choose.value) (lean, (lo, (hi, tt))) t)
    (arcs_in l.initial.self.local) l.initial.self.lean l.initial.self.local.points l.initial.self.choices l.self.choices l.place
