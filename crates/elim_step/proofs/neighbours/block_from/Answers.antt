use Rattle.std.proofs.Common.{◌≡◌, false, arith, get_or, ◌∙◌}
use Rattle.elim_step.specs.Eliminates.{is_neighbour}
use Rattle.elim_step.specs.Blocks.{items_of}
use Rattle.elim_step.proofs.Blocks.{block-more, block-longer, neighbour-false, neighbour-here}
use Rattle.elim_step.proofs.neighbours.block_from.Goals as goal

pub returns-in_default-clause-block : goal.returns-in_default-clause-block
returns-in_default-clause-block g c =
    let f = g.R.Rows.at c.args.rows.now in
    let remain = c.args.remain.now in
    let k = c.args.k in
    let was = c.filling.block in
    let inv = c.filling.invariant in
    rw c.size-size.ensures (block-longer (is_neighbour remain f k) c.args.from was.end (g.R.Rows.places c.args.rows.now) (items_of was) inv.block inv.within
    (λ m low h. neighbour-false remain f k m (c.in_default.ensures.none m low)))

pub filling-preserved : goal.filling-preserved
filling-preserved g c =
    let f = g.R.Rows.at c.args.rows.now in
    let remain = c.args.remain.now in
    let k = c.args.k in
    let n = c.in-Some.n in
    let was = c.filling.block in
    let inv = c.filling.invariant in
    let now = c.with-block.ensures in
    let neighbours : is_neighbour remain f k n ≡ get_or remain n false = neighbour-here remain f k n c.in-Some.ensures.some.2 in
    let more =
    block-more (is_neighbour remain f k) c.args.from was.end n (get_or remain n false) (items_of was) inv.block c.in-Some.ensures.some.0 neighbours
    (λ m low h. neighbour-false remain f k m (c.in-Some.ensures.least m low h)) in
    record {
      from = now.from ∙ inv.from;
      block = rw (now.end, now.items) more;
      within = (let low = c.in-Some.ensures.some.1 in omega arith);
      onward = λ h. (let order = inv.block.order in let low = c.in-Some.ensures.some.0 in omega arith);
    }
