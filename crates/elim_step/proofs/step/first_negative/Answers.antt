use Rattle.std.proofs.Common.{◌≡◌, ◌≤◌, false, arith, get_or, ◌+◌, sym, ◌∙◌}
use Rattle.elim_step.specs.Eliminates.{is_neighbour}
use Rattle.elim_step.proofs.Blocks.{neighbour-false, neighbour-here, below-more, count_below-gap, count-step, count-le}
use Rattle.elim_step.proofs.step.first_negative.Goals as goal

pub returns-then-looks_below-clause-most : goal.returns-then-looks_below-clause-most
returns-then-looks_below-clause-most g c =
    let f = g.R.Rows.at c.args.rows.now in
    let remain = c.args.remain.now in
    let k = c.args.k in
    let n = c.in-Some.n in
    let test = is_neighbour remain f k in
    let neighbours : test n ≡ get_or remain n false = neighbour-here remain f k n c.in-Some.ensures.some.2 in
    let step =
    count-step test c.loop-n.from n (get_or remain n false) c.in-Some.ensures.some.0 neighbours
    (λ m low h. neighbour-false remain f k m (c.in-Some.ensures.least m low h)) in
    let low : n + 1 ≤ g.R.Rows.places c.args.rows.now = (let l = c.in-Some.ensures.some.1 in omega arith) in
    let most = count-le test (n + 1) (g.R.Rows.places c.args.rows.now) low in
    let was = c.loop-n.invariant.steps in
    let now = c.looks_below.ensures.steps in
    omega arith

pub loop-n-preserved : goal.loop-n-preserved
loop-n-preserved g c =
    let f = g.R.Rows.at c.args.rows.now in
    let remain = c.args.remain.now in
    let k = c.args.k in
    let n = c.in-Some.n in
    let test = is_neighbour remain f k in
    let neighbours : test n ≡ get_or remain n false = neighbour-here remain f k n c.in-Some.ensures.some.2 in
    let step =
    count-step test c.loop-n.from n (get_or remain n false) c.in-Some.ensures.some.0 neighbours
    (λ m low h. neighbour-false remain f k m (c.in-Some.ensures.least m low h)) in
    let was = c.loop-n.invariant in
    let now = c.looks_below.ensures in
    record {
      none = below-more remain f k c.loop-n.from n was.none c.in-Some.ensures.least (sym now.value ∙ c.if-looks_below.false);
      within = (let l = c.in-Some.ensures.some.1 in omega arith);
      steps = now.steps ∙ (let e = was.steps in omega arith);
    }

pub returns-clause-each : goal.returns-clause-each
returns-clause-each g c =
    let f = g.R.Rows.at c.args.rows.now in
    let remain = c.args.remain.now in
    let k = c.args.k in
    let gap =
    count_below-gap (is_neighbour remain f k) c.loop-n.from (g.R.Rows.places c.args.rows.now) c.loop-n.invariant.within
    (λ m low h. neighbour-false remain f k m (c.in_default.ensures.none m low)) in
    let was = c.loop-n.invariant.steps in
    omega arith

pub returns-clause-most : goal.returns-clause-most
returns-clause-most g c =
    let most =
    count-le (is_neighbour c.args.remain.now (g.R.Rows.at c.args.rows.now) c.args.k) c.loop-n.from
    (g.R.Rows.places c.args.rows.now) c.loop-n.invariant.within in
    let was = c.loop-n.invariant.steps in
    omega arith
