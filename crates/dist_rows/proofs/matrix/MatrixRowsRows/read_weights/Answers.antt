use Rattle.std.proofs.Common.{◌≡◌, ◌∙◌, ap, arith, rules, length-set, to_z, of_z}
use Rattle.std.specs.Prelude.{pos, slice_index_or}
use Rattle.std.specs.Int.{w128}
use Rattle.std.proofs.lemmas.Int.{ints}
use Rattle.dist_rows.specs.Cells.{weight_in}
use Rattle.dist_rows.specs.Matrix.{cell_at}
use Rattle.dist_rows.proofs.Lists.{set-done}
use Rattle.dist_rows.proofs.matrix.MatrixRowsRows.read_weights.Goals as goal

pub loop-n-preserved : goal.loop-n-preserved
loop-n-preserved c =
    let s = c.args.self.now in
    let n = c.loop-n.n in
    let now = c.loop-n.weights in
    let was = c.loop-n.invariant in
    let kept : to_z w128 (of_z w128 c.weight_in.result) ≡ c.weight_in.result = omega (arith, ints) in
    record {
      len = length-set now n _ ∙ was.len;
      weights = set-done (λ m. weight_in (cell_at s.size s.slots.items c.args.i (slice_index_or c.args.others.now m 0))) now n (pos 0) _
          (search rules) was.weights (kept ∙ c.weight_in.ensures ∙ ap weight_in c.get.ensures);
    }
