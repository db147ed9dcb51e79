use Rattle.std.proofs.Common.{◌+◌, ℕ, ap, sym, ◌∙◌, arith}
use Rattle.net_gen.proofs.Drawing.{value_after-zero}
use Rattle.net_gen.proofs.draws.Draws.new.Goals as goal

pub invariant_of-result : goal.invariant_of-result
invariant_of-result c = (ap (λ (k : ℕ). k + 1) c.from.ensures ∙ sym (value_after-zero c.args.number), omega arith)
