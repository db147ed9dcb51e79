use Rattle.std.proofs.Common.{arith, ◌≡◌, ◌∙◌, to_z, of_z}
use Rattle.std.specs.Prelude.{◌+ℤ◌}
use Rattle.std.specs.Int.{w128}
use Rattle.std.proofs.lemmas.Int.{ints}
use Rattle.dist_rows.specs.Matrix.{cell_at}
use Rattle.dist_rows.proofs.Offers.{offered_other}
use Rattle.dist_rows.proofs.matrix.MatrixRows.offer.Goals as goal

pub returns-clause-cells : goal.returns-clause-cells
returns-clause-cells c = λ p q.
    let sum : to_z w128 (of_z w128 (to_z w128 (of_z w128 c.args.by) +ℤ to_z w128 (of_z w128 c.args.offer.weight)))
    ≡ c.args.by +ℤ c.args.offer.weight = omega (arith, ints) in
    c.lower.ensures.cells p q ∙ offered_other c.args.i c.args.k c.args.by c.args.offer (cell_at c.args.self.now.size c.args.self.now.slots.items) _
    c.if-offer-i.false sum p q
