use Rattle.std.proofs.Common.{ℕ, sym, ap, ◌∙◌, take, get_or, Option, None, rules}
use Rattle.std.specs.Prelude.{pos, ◌+ℤ◌}
use Rattle.std.proofs.lemmas.List.{take_more}
use Rattle.dist_rows.specs.declared.cell.Cell.{Cell}
use Rattle.elim_step.specs.Eliminates.{lesser_of, sum_through}
use Rattle.elim_step.specs.Revisits.{least_over}
use Rattle.elim_step.specs.Sums.{lesser_sum, cell_for}
use Rattle.elim_step.proofs.Revisits.{least_over-push}
use Rattle.elim_step.proofs.SumFacts.{plain_kept, lesser-sum}
use Rattle.elim_step.proofs.sums.least_sum.Goals as goal

pub loop-n-preserved : goal.loop-n-preserved
loop-n-preserved c =
    let xs = c.args.block.now in
    let n = c.loop-n.n in
    let x = get_or xs n 0 in
    let first = plain_kept (get_or c.args.row.now n (pos 0)) (c.requires.row n (search rules)) in
    let second = plain_kept (get_or c.args.back.now n (pos 0)) (c.requires.back n (search rules)) in
    record {
      value = λ f g row back light other.
          (let s : ℕ → Option Cell = λ m. sum_through m (f m) (g m) in
          ap cell_for c.lower.ensures.value
          ∙ (λ t. cell_for (lesser_sum c.loop-n.least x ((first ∙ row n (search rules)) t +ℤ (second ∙ back n (search rules)) t)))
          ∙ lesser-sum c.loop-n.least x (f x) (g x) c.loop-n.invariant.sum (light n (search rules)) (other n (search rules))
          ∙ (λ t. lesser_of (c.loop-n.invariant.value f g row back light other t) (s x))
          ∙ sym (least_over-push s None (take n xs) x)
          ∙ ap (λ ys. least_over s None ys) (sym (take_more xs n 0 (search rules))));
      sum = c.lower.ensures.sum;
    }
