use Rattle.std.proofs.Common.{◌≡◌, ℕ, ap, ◌∙◌, arith, refl, length, None}
use Rattle.elim_step.specs.Blocks.{items_of}
use Rattle.elim_step.proofs.Lowered.{columns-out, columns-back, columns-more, columns-whole, block-first, block-without}
use Rattle.elim_step.proofs.Whole.{none-from}
use Rattle.elim_step.proofs.lower.lower_rows.Goals as goal

pub lower_pairs-requires-clause-others_away : goal.lower_pairs-requires-clause-others_away
lower_pairs-requires-clause-others_away g c =
    let fs = c.args.rows.now in
    let f = g.R.Rows.at fs in
    let k = c.args.k in
    let none : f k k ≡ None = none-from (f k k) (λ here. (g.met.R.Rows.room_is_within fs k k (g.met.R.Rows.cells_have_room fs k k here)).2 refl) in
    let block = c.walk.others in
    rw c.as_slice.ensures.value (block-without c.args.remain.now f f k 0 none block.from block.end (items_of block) c.walk.invariant.block)

pub lower_pairs-requires-clause-others_rising : goal.lower_pairs-requires-clause-others_rising
lower_pairs-requires-clause-others_rising g c = rw c.as_slice.ensures.value c.walk.invariant.block.rising

pub lower_pairs-requires-clause-first : goal.lower_pairs-requires-clause-first
lower_pairs-requires-clause-first g c =
    let fs = c.args.rows.now in
    let f = g.R.Rows.at fs in
    let k = c.args.k in
    let none : f k k ≡ None = none-from (f k k) (λ here. (g.met.R.Rows.room_is_within fs k k (g.met.R.Rows.cells_have_room fs k k here)).2 refl) in
    let back =
    columns-back c.args.remain.now f (g.R.Rows.at c.walk.rows) k c.walk.others.from none c.args.places.now c.requires.away c.walk.invariant.cells in
    λ i. rw (back i) (c.requires.first i)

pub returns-then-others-size-clause-cells : goal.returns-then-others-size-clause-cells
returns-then-others-size-clause-cells g c =
    let fs = c.args.rows.now in
    let f = g.R.Rows.at fs in
    let h = g.R.Rows.at c.lower_pairs.new.rows in
    let k = c.args.k in
    let remain = c.args.remain.now in
    let none : f k k ≡ None = none-from (f k k) (λ here. (g.met.R.Rows.room_is_within fs k k (g.met.R.Rows.cells_have_room fs k k here)).2 refl) in
    let block = c.walk.others in
    let places = c.args.places.now in
    let was = c.walk.invariant in
    columns-whole remain f h k block.end (omega arith) places
    (columns-more remain f (g.R.Rows.at c.walk.rows) k block.from none places c.requires.away was.cells h block.end (items_of block) was.block
    (rw c.as_slice.ensures.value at c.lower_pairs.ensures.cells))

pub returns-then-others-size-clause-steps : goal.returns-then-others-size-clause-steps
returns-then-others-size-clause-steps g c =
    let was = c.walk.invariant in
    let count = was.block.count in
    let taken : length c.as_slice.result.now ≡ length (items_of c.walk.others) = ap (length {A = ℕ}) c.as_slice.ensures.value in
    let whole : c.walk.others.end ≡ g.R.Rows.places c.args.rows.now = omega arith in
    rw (c.lower_pairs.ensures.steps, was.steps, taken, ← whole, ← count) (grind arith)

pub walk-preserved : goal.walk-preserved
walk-preserved g c =
    let fs = c.args.rows.now in
    let f = g.R.Rows.at fs in
    let h = g.R.Rows.at c.lower_pairs.new.rows in
    let k = c.args.k in
    let remain = c.args.remain.now in
    let none : f k k ≡ None = none-from (f k k) (λ here. (g.met.R.Rows.room_is_within fs k k (g.met.R.Rows.cells_have_room fs k k here)).2 refl) in
    let was = c.walk.invariant in
    let now = c.lower_pairs.ensures in
    let block = c.walk.others in
    let next = c.block_from-others.result in
    let places = c.args.places.now in
    let cells =
    columns-more remain f (g.R.Rows.at c.walk.rows) k block.from none places c.requires.away was.cells h block.end (items_of block) was.block
    (rw c.as_slice.ensures.value at now.cells) in
    let count = was.block.count in
    let taken : length c.as_slice.result.now ≡ length (items_of block) = ap (length {A = ℕ}) c.as_slice.ensures.value in
    let end : next.from ≡ block.end = c.block_from-others.ensures.from in
    record {
      cells = rw end cells;
      room = λ p q. now.room p q ∙ was.room p q;
      places = now.places ∙ was.places;
      roomy = now.roomy ∙ was.roomy;
      steps = rw (now.steps, was.steps, taken, end, ← count) (grind arith);
      block = rw end (block-first remain f h k block.end none block.end next.end (items_of next)
          (columns-out remain f h k block.end none places c.requires.away cells) (columns-back remain f h k block.end none places c.requires.away cells)
          c.block_from-others.ensures.block);
      within = (let w = c.block_from-others.ensures.within in let e = now.places in let o = was.places in omega arith);
    }
