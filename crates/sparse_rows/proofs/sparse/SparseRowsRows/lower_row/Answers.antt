use Rattle.std.proofs.Common.{arith, rules, subst, ◌≡◌, ◌∙◌, sym, ap, ℤ, List, drop, [], to_z, of_z}
use Rattle.std.specs.Int.{w128}
use Rattle.std.proofs.lemmas.Int.{ints}
use Rattle.std.proofs.lemmas.List.{drop_all}
use Rattle.dist_rows.specs.declared.cell.Offer.{Offer}
use Rattle.dist_rows.specs.Turns.{all_offered}
use Rattle.dist_rows.proofs.Offers.{one_more, all_offered_is}
use Rattle.sparse_rows.specs.SparseMaps.{cells_of}
use Rattle.sparse_rows.proofs.RowSets.{before_later}
use Rattle.sparse_rows.proofs.sparse.SparseRowsRows.lower_row.Goals as goal

pub loop-n-preserved : goal.loop-n-preserved
loop-n-preserved c = record {
  size = c.offer-at.ensures.size ∙ c.loop-n.invariant.size;
  cells = λ p q. one_more c.args.i c.args.k _ c.args.offers.now c.loop-n.n _ (cells_of c.loop-n.self.rows.items) (cells_of c.offer-at.new.self.rows.items)
      c.loop-n-test.true (search rules) c.offer-at.ensures.cells p q ∙ c.loop-n.invariant.cells p q;
  room = λ p q. c.offer-at.ensures.room p q ∙ c.loop-n.invariant.room p q;
  within = c.offer-at.ensures.within;
  before = λ m q later there less. before_later c.args.offers.now c.loop-n.n m _ _ c.requires.rising c.loop-n-test.true (c.offer-at.ensures.before q less)
      later there;
}

pub returns-clause-cells : goal.returns-clause-cells
returns-clause-cells c = λ p q.
    let by : to_z w128 (of_z w128 c.args.by) ≡ c.args.by = omega (arith, ints) in
    let none : drop c.loop-n.n c.args.offers.now ≡ [] = drop_all c.loop-n.n c.args.offers.now (omega arith) in
    let before = cells_of c.args.self.now.rows.items in
    let after = cells_of c.loop-n.self.rows.items in
    let done = c.loop-n.invariant.cells p q in
    sym (ap (λ (os : List Offer). all_offered c.args.i c.args.k c.args.by os after p q) none)
    ∙ subst (λ (b : ℤ). all_offered c.args.i c.args.k b (drop c.loop-n.n c.args.offers.now) after p q
    ≡ all_offered c.args.i c.args.k b c.args.offers.now before p q) by done
    ∙ all_offered_is c.args.i c.args.k c.args.by c.args.offers.now c.requires.rising before p q
