use Rattle.std.proofs.Common.{◌*◌, ◌%◌, ℕ, ap, ◌∙◌, arith}
use Rattle.net_gen.proofs.Drawing.{value_after-more}
use Rattle.net_gen.proofs.draws.Draws.draw.Goals as goal

pub invariant_of-self : goal.invariant_of-self
invariant_of-self c =
    (value_after-more c.self.inside.number c.self.inside.count c.self.inside.value c.self.invariant.0, omega arith)

pub returns-clause-drawn : goal.returns-clause-drawn
returns-clause-drawn c =
    rw (← c.self.view_is)
    (ap (λ (k : ℕ). 48271 * c.self.inside.value % 2147483647 % k) c.from.ensures
    ∙ ap (λ (v : ℕ). v % c.args.below) (value_after-more c.self.inside.number c.self.inside.count c.self.inside.value c.self.invariant.0))
