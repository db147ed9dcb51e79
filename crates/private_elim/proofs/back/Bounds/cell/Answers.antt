use Rattle.std.proofs.Common.{◌∙◌}
use Rattle.private_elim.specs.Backs.{cell_in}
use Rattle.private_elim.proofs.back.Bounds.cell.Goals as goal

pub returns-clause-value : goal.returns-clause-value
returns-clause-value g c =
    c.cell_at.ensures.value ∙ (λ k. cell_in c.args.self.now (c.in-Some.ensures.value k) (c.in-Some-place_of.ensures.value k))
