use Rattle.std.proofs.Common.{arith, rules, subst, ◌≡◌, ◌∙◌, sym, ap, ℤ, List, drop, [], to_z, of_z}
use Rattle.std.specs.Int.{w128}
use Rattle.std.proofs.lemmas.Int.{ints}
use Rattle.std.proofs.lemmas.List.{drop_all}
use Rattle.dist_rows.specs.declared.cell.Offer.{Offer}
use Rattle.dist_rows.specs.Turns.{all_offered}
use Rattle.dist_rows.specs.Matrix.{cell_at}
use Rattle.dist_rows.proofs.Offers.{one_more, all_offered_is}
use Rattle.dist_rows.proofs.matrix.MatrixRowsRows.lower_row.Goals as goal

pub loop-n-preserved : goal.loop-n-preserved
loop-n-preserved c = record {
  size = c.offer.ensures.size ∙ c.loop-n.invariant.size;
  cells = λ p q. one_more c.args.i c.args.k _ c.args.offers.now c.loop-n.n _ (cell_at c.loop-n.self.size c.loop-n.self.slots.items)
      (cell_at c.offer.new.self.size c.offer.new.self.slots.items) c.loop-n-test.true (search rules) c.offer.ensures.cells p q ∙ c.loop-n.invariant.cells p q;
}

pub returns-clause-cells : goal.returns-clause-cells
returns-clause-cells c = λ p q.
    let by : to_z w128 (of_z w128 c.args.by) ≡ c.args.by = omega (arith, ints) in
    let none : drop c.loop-n.n c.args.offers.now ≡ [] = drop_all c.loop-n.n c.args.offers.now (omega arith) in
    let before = cell_at c.args.self.now.size c.args.self.now.slots.items in
    let after = cell_at c.loop-n.self.size c.loop-n.self.slots.items in
    let done = c.loop-n.invariant.cells p q in
    sym (ap (λ (os : List Offer). all_offered c.args.i c.args.k c.args.by os after p q) none)
    ∙ subst (λ (b : ℤ). all_offered c.args.i c.args.k b (drop c.loop-n.n c.args.offers.now) after p q
    ≡ all_offered c.args.i c.args.k b c.args.offers.now before p q) by done
    ∙ all_offered_is c.args.i c.args.k c.args.by c.args.offers.now c.requires.rising before p q
