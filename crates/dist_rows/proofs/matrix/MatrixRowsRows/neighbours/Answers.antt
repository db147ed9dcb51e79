use Rattle.std.proofs.Common.{arith, sym, subst, ◌∙◌, ◌+◌, List, ℕ, take}
use Rattle.dist_rows.specs.Cells.{are_neighbours}
use Rattle.dist_rows.specs.Places.{IsListing}
use Rattle.dist_rows.specs.Matrix.{cell_at}
use Rattle.dist_rows.proofs.Listings.{listing_more}
use Rattle.dist_rows.proofs.matrix.MatrixRowsRows.neighbours.Goals as goal

pub loop-n-preserved : goal.loop-n-preserved
loop-n-preserved c =
    let test = are_neighbours (cell_at c.args.self.now.size c.args.self.now.slots.items) c.args.i in
    let next = listing_more test c.args.from c.loop-n.n c.loop-n.n (c.loop-n.n + 1) c.touches.result (take c.loop-n.count c.loop-n.list)
    c.loop-n.invariant.listed
    c.loop-n.auto.n (omega arith) (omega arith) (sym c.touches.ensures) (λ p a b apart. absurd (apart (omega (arith, a, b)))) in
    record {
      len = c.put_where-count.ensures.len ∙ c.loop-n.invariant.len;
      count = c.put_where-count.ensures.count;
      listed = subst (λ (xs : List ℕ). IsListing test c.args.from (c.loop-n.n + 1) xs) (sym c.put_where-count.ensures.places) next;
    }
