use Rattle.std.proofs.Common.{◌∙◌, ap, get_or, rules}
use Rattle.std.specs.Prelude.{◌+ℤ◌}
use Rattle.stn_walk.proofs.Members.{is_in-at, is_in-apart}
use Rattle.elim_step.specs.Revisits.{reach_of, sum_lowered}
use Rattle.elim_step.specs.Sums.{lesser_sum, cell_for, sum_at}
use Rattle.elim_step.proofs.SumFacts.{plain_kept, lesser-sum, reach_light}
use Rattle.elim_step.proofs.rising_revisit.revisit_row.Goals as goal

pub read_reach-requires-clause-light : goal.read_reach-requires-clause-light
read_reach-requires-clause-light g c = λ m l.
    (let block = c.args.block.now in
    c.requires.finals c.args.j (get_or block m 0) c.requires.apart
    (is_in-apart block (get_or block m 0) c.args.k (is_in-at block m l) c.requires.away))

pub returns-clause-value : goal.returns-clause-value
returns-clause-value g c = λ m l.
    (let j = c.args.j in
    let f = g.R.Rows.at c.args.finals.now in
    let x = get_or c.args.block.now m 0 in
    let s = sum_at c.args.sums.now m in
    let kept = plain_kept c.plain_weight-first.result c.plain_weight-first.ensures.plain in
    let far_light = c.requires.finals j x c.requires.apart (is_in-apart c.args.block.now x c.args.k (is_in-at c.args.block.now m l) c.requires.away) in
    ap cell_for (c.lower_sums.ensures.value m (search rules))
    ∙ (λ t. cell_for (lesser_sum s j ((kept ∙ c.plain_weight-first.ensures.value) t +ℤ c.read_reach.ensures.weights m l t)))
    ∙ lesser-sum s j (g.R.Rows.at c.args.forward.now c.args.k j) (reach_of f j x) (c.requires.sums m l) (c.requires.forward c.args.k j) (reach_light j x (f j x) far_light))

pub returns-clause-cells : goal.returns-clause-cells
returns-clause-cells g c =
    let fw = g.R.Rows.at c.args.forward.now in
    let f = g.R.Rows.at c.args.finals.now in
    let k = c.args.k in
    let j = c.args.j in
    let block = c.args.block.now in
    let least = c.least_sum-least.ensures.value (reach_of f j) (λ m. fw m k) c.read_reach.ensures.weights c.requires.back
    (λ m l. reach_light j (get_or block m 0) _ (c.requires.finals j (get_or block m 0) c.requires.apart
    (is_in-apart block (get_or block m 0) k (is_in-at block m l) c.requires.away)))
    (λ m l. c.requires.forward (get_or block m 0) k) in
    λ p q. c.lower_to.ensures.cells p q ∙ (λ t. sum_lowered j k ((c.cell.ensures.value ∙ least) t) f p q)
