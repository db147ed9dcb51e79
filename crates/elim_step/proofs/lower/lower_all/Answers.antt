use Rattle.std.proofs.Common.{◌≡◌, ℕ, ap, sym, ◌∙◌, arith, refl, ◌+◌, ◌*◌, length, None}
use Rattle.elim_step.specs.Eliminates.{is_neighbour, count_below}
use Rattle.elim_step.specs.Blocks.{items_of}
use Rattle.elim_step.proofs.Blocks.{block-member, block-forward, steps-whole}
use Rattle.elim_step.proofs.Lowered.{rows-out, rows-back, rows-same, rows-count, rows-more, rows-whole, block-first, block-without}
use Rattle.elim_step.proofs.Whole.{none-from}
use Rattle.elim_step.proofs.lower.lower_all.Goals as goal

pub lower_rows-requires-clause-away : goal.lower_rows-requires-clause-away
lower_rows-requires-clause-away g c =
    let fs = c.args.rows.now in
    let f = g.R.Rows.at fs in
    let k = c.args.k in
    let none : f k k ≡ None = none-from (f k k) (λ here. (g.met.R.Rows.room_is_within fs k k (g.met.R.Rows.cells_have_room fs k k here)).2 refl) in
    let block = c.walk.block in
    rw c.as_slice.ensures.value (block-without c.args.remain.now f f k 0 none block.from block.end (items_of block) c.walk.invariant.block)

pub lower_rows-requires-clause-first_block : goal.lower_rows-requires-clause-first_block
lower_rows-requires-clause-first_block g c =
    let fs = c.args.rows.now in
    let f = g.R.Rows.at fs in
    let w = g.R.Rows.at c.walk.rows in
    let k = c.args.k in
    let remain = c.args.remain.now in
    let none : f k k ≡ None = none-from (f k k) (λ here. (g.met.R.Rows.room_is_within fs k k (g.met.R.Rows.cells_have_room fs k k here)).2 refl) in
    let cells = c.walk.invariant.cells in
    block-forward remain f w k 0 c.args.first.now.end (items_of c.args.first.now)
    (rows-out remain f w k c.walk.block.from none cells) (rows-back remain f w k c.walk.block.from none cells) c.requires.first_block

pub lower_rows-requires-clause-room : goal.lower_rows-requires-clause-room
lower_rows-requires-clause-room g c =
    let fs = c.args.rows.now in
    let f = g.R.Rows.at fs in
    let k = c.args.k in
    let remain = c.args.remain.now in
    let none : f k k ≡ None = none-from (f k k) (λ here. (g.met.R.Rows.room_is_within fs k k (g.met.R.Rows.cells_have_room fs k k here)).2 refl) in
    let block = c.walk.block in
    let same = rows-same remain f (g.R.Rows.at c.walk.rows) k block.from none c.walk.invariant.cells in
    λ i j at_i at_j apart.
    let member = block-member (is_neighbour remain f k) block.from block.end (items_of block) c.walk.invariant.block i (rw c.as_slice.ensures.value at at_i) in
    c.walk.invariant.room i j ∙ c.requires.room i j member.1 (sym (same j) ∙ at_j) apart

pub lower_rows-requires-clause-first : goal.lower_rows-requires-clause-first
lower_rows-requires-clause-first g c =
    let fs = c.args.rows.now in
    let f = g.R.Rows.at fs in
    let k = c.args.k in
    let none : f k k ≡ None = none-from (f k k) (λ here. (g.met.R.Rows.room_is_within fs k k (g.met.R.Rows.cells_have_room fs k k here)).2 refl) in
    let back = rows-back c.args.remain.now f (g.R.Rows.at c.walk.rows) k c.walk.block.from none c.walk.invariant.cells in
    λ i. rw (back i) (c.requires.light i k)

pub lower_rows-requires-clause-second : goal.lower_rows-requires-clause-second
lower_rows-requires-clause-second g c =
    let fs = c.args.rows.now in
    let f = g.R.Rows.at fs in
    let k = c.args.k in
    let none : f k k ≡ None = none-from (f k k) (λ here. (g.met.R.Rows.room_is_within fs k k (g.met.R.Rows.cells_have_room fs k k here)).2 refl) in
    let out = rows-out c.args.remain.now f (g.R.Rows.at c.walk.rows) k c.walk.block.from none c.walk.invariant.cells in
    λ j. rw (out j) (c.requires.light k j)

pub returns-then-block-size-clause-cells : goal.returns-then-block-size-clause-cells
returns-then-block-size-clause-cells g c =
    let fs = c.args.rows.now in
    let f = g.R.Rows.at fs in
    let h = g.R.Rows.at c.lower_rows.new.rows in
    let k = c.args.k in
    let remain = c.args.remain.now in
    let none : f k k ≡ None = none-from (f k k) (λ here. (g.met.R.Rows.room_is_within fs k k (g.met.R.Rows.cells_have_room fs k k here)).2 refl) in
    let block = c.walk.block in
    let was = c.walk.invariant in
    rows-whole remain f h k block.end (omega arith)
    (rows-more remain f (g.R.Rows.at c.walk.rows) k block.from none was.cells h block.end (items_of block) was.block
    (rw c.as_slice.ensures.value at c.lower_rows.ensures.cells))

pub returns-then-block-size-clause-room : goal.returns-then-block-size-clause-room
returns-then-block-size-clause-room g c = λ p q. c.lower_rows.ensures.room p q ∙ c.walk.invariant.room p q

pub returns-then-block-size-clause-steps : goal.returns-then-block-size-clause-steps
returns-then-block-size-clause-steps g c =
    let fs = c.args.rows.now in
    let f = g.R.Rows.at fs in
    let k = c.args.k in
    let remain = c.args.remain.now in
    let none : f k k ≡ None = none-from (f k k) (λ here. (g.met.R.Rows.room_is_within fs k k (g.met.R.Rows.cells_have_room fs k k here)).2 refl) in
    let was = c.walk.invariant in
    let block = c.walk.block in
    let places = g.R.Rows.places fs in
    let test = is_neighbour remain f k in
    let taken : length c.as_slice.result.now ≡ length (items_of block) = ap (length {A = ℕ}) c.as_slice.ensures.value in
    let counts : count_below (is_neighbour remain (g.R.Rows.at c.walk.rows) k) (g.R.Rows.places c.walk.rows) ≡ count_below test places =
    ap (count_below (is_neighbour remain (g.R.Rows.at c.walk.rows) k)) was.places
    ∙ rows-count remain f (g.R.Rows.at c.walk.rows) k block.from none was.cells places in
    let whole : block.end ≡ places = omega arith in
    let all : length (items_of block) + count_below test block.from ≡ count_below test places = was.block.count ∙ ap (count_below test) whole in
    let second : c.lower_rows.new.steps ≡ c.walk.steps + length (items_of block) * count_below test places =
    c.lower_rows.ensures.steps ∙ (λ t. c.walk.steps + taken t * counts t) in
    steps-whole c.args.steps.now c.walk.steps c.lower_rows.new.steps (length (items_of block)) (count_below test block.from) (count_below test places)
    was.steps second all

pub walk-preserved : goal.walk-preserved
walk-preserved g c =
    let fs = c.args.rows.now in
    let f = g.R.Rows.at fs in
    let w = g.R.Rows.at c.walk.rows in
    let h = g.R.Rows.at c.lower_rows.new.rows in
    let k = c.args.k in
    let remain = c.args.remain.now in
    let none : f k k ≡ None = none-from (f k k) (λ here. (g.met.R.Rows.room_is_within fs k k (g.met.R.Rows.cells_have_room fs k k here)).2 refl) in
    let was = c.walk.invariant in
    let now = c.lower_rows.ensures in
    let block = c.walk.block in
    let next = c.block_from-block.result in
    let cells = rows-more remain f w k block.from none was.cells h block.end (items_of block) was.block (rw c.as_slice.ensures.value at now.cells) in
    let count = was.block.count in
    let taken : length c.as_slice.result.now ≡ length (items_of block) = ap (length {A = ℕ}) c.as_slice.ensures.value in
    let counts : count_below (is_neighbour remain w k) (g.R.Rows.places c.walk.rows) ≡ count_below (is_neighbour remain f k) (g.R.Rows.places fs) =
    ap (count_below (is_neighbour remain w k)) was.places ∙ rows-count remain f w k block.from none was.cells (g.R.Rows.places fs) in
    let end : next.from ≡ block.end = c.block_from-block.ensures.from in
    record {
      cells = rw end cells;
      room = λ p q. now.room p q ∙ was.room p q;
      places = now.places ∙ was.places;
      roomy = now.roomy ∙ was.roomy;
      steps = rw (now.steps, was.steps, taken, counts, end, ← count) (grind arith);
      block = rw end (block-first remain f h k block.end none block.end next.end (items_of next) (rows-out remain f h k block.end none cells)
          (rows-back remain f h k block.end none cells) c.block_from-block.ensures.block);
      within = (let z = c.block_from-block.ensures.within in let e = now.places in let o = was.places in omega arith);
    }
