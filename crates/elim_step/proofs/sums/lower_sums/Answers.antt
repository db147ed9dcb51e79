use Rattle.std.proofs.Common.{◌≡◌, ◌∙◌, ◌<◌, ℕ, sym, get_or, arith, rules, length, length-set}
use Rattle.std.specs.Prelude.{pos, ◌+ℤ◌}
use Rattle.dist_rows.proofs.Lists.{set-done, set-left, set-all}
use Rattle.elim_step.specs.declared.sums.Sum.{Sum}
use Rattle.elim_step.specs.Sums.{IsSum, lesser_sum, sum_at}
use Rattle.elim_step.proofs.SumFacts.{plain_kept}
use Rattle.elim_step.proofs.sums.lower_sums.Goals as goal

pub loop-n-preserved : goal.loop-n-preserved
loop-n-preserved c =
    let n = c.loop-n.n in
    let j = c.args.j in
    let row = c.args.row.now in
    let now = c.loop-n.sums in
    let was = c.loop-n.invariant in
    let lt : n < length now = search rules in
    let none : Sum = record { weight = pos 0; via = 0 } in
    let kept = plain_kept c.args.first c.requires.first in
    let read = plain_kept (get_or row n (pos 0)) (c.requires.row n (search rules)) in
    let s : ℕ → Sum = λ m. lesser_sum (sum_at c.args.sums.now m) j (c.args.first +ℤ get_or row m (pos 0)) in
    let is : c.lower.new.self ≡ s n =
    c.lower.ensures.value ∙ (λ t. lesser_sum (was.left n (omega arith) (search rules) t) j (kept t +ℤ read t)) in
    record {
      len = length-set now n c.lower.new.self ∙ was.len;
      done = λ m less. set-done s now n none c.lower.new.self lt (λ q l. was.done q l ∙ (λ t. lesser_sum (sum_at c.args.sums.now q) j (kept t +ℤ get_or row q (pos 0)))) is m less
          ∙ (λ t. lesser_sum (sum_at c.args.sums.now m) j (sym kept t +ℤ get_or row m (pos 0)));
      left = λ m later l. set-left now n m none c.lower.new.self later ∙ was.left m (omega (arith, later)) l;
      sums = λ m l. set-all IsSum now n m none c.lower.new.self lt c.lower.ensures.sum (was.sums m l);
    }
