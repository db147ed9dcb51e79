use Rattle.std.proofs.Common.{◌≡◌, arith, length}
use Rattle.elim_step.proofs.JoinWrites.{same_lists, copied}
use Rattle.elim_step.proofs.joins.Joins.copy.Goals as goal

pub invariant_of-result : goal.invariant_of-result
invariant_of-result c =
    let s = c.args.self.now in
    let was = c.loop-n.invariant in
    let k = s.kept.len in
    let long = s.lists.ok.0 in
    let all = c.loop-n-test.false in
    let few = c.loop-n.auto.n-end in
    let end = c.len-n-end.ensures in
    let len = was.len in
    let many : length c.loop-n.lists.items ≡ s.size = omega (arith, k, long, all, few, end, len) in
    record {
      kept = copied s.size s.lists.items c.loop-n.lists.items s.kept many
          (same_lists s.size s.lists.items c.loop-n.lists.items k many (λ p low. was.same p (omega (arith, low, many, len))));
    }
