use Rattle.std.proofs.Common.{◌≡◌, ◌-ℤ◌, neg_ℤ, pos, arith, to_z, of_z, w64}
use Rattle.std.specs.Int.{w128}
use Rattle.std.proofs.lemmas.Int.{ints}
use Rattle.private_elim.proofs.locals.Windows.{both_pushed}
use Rattle.private_elim.proofs.local.add_window.Goals as goal

pub returns : goal.returns
returns c =
    let w = c.args.window in
    let range = c.requires in
    let hi : to_z w64 (of_z w64 (to_z w128 (of_z w128 w.hi))) ≡ w.hi = omega (arith, ints) in
    let lo : to_z w64 (of_z w64 (pos 0 -ℤ to_z w64 (of_z w64 (to_z w128 (of_z w128 w.lo))))) ≡ neg_ℤ w.lo = omega (arith, ints) in
    both_pushed w c.args.arcs.now.items _ _ c.added.result c.added-2.result _ _ hi lo c.added.ensures c.added-2.ensures c.in_ok-push.ensures.items
    c.in_ok-push-2.ensures.items
