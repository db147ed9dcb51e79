use Rattle.std.proofs.Common.{arith}
use Rattle.std.proofs.lemmas.Int.{ints}
use Rattle.dispatcher.proofs.Fallen.{reads_tail, reads_head}
use Rattle.dispatcher.proofs.falling.is_broken.Goals as goal

pub exceeds-requires : goal.exceeds-requires
exceeds-requires c =
    let t = reads_tail c.args.arcs.now c.args.labels.now.items c.args.n c.index-tail.result.now c.requires.safe c.requires.within c.index-tail.ensures in
    let low = t.low in
    let high = t.high in
    let bound_low = t.bound_low in
    let bound_high = t.bound_high in
    record { low = omega (arith, ints); high = omega (arith, ints); bound_low = omega (arith, ints); bound_high = omega (arith, ints) }

pub returns : goal.returns
returns c =
    let t = reads_tail c.args.arcs.now c.args.labels.now.items c.args.n c.index-tail.result.now c.requires.safe c.requires.within c.index-tail.ensures in
    let head = reads_head c.args.arcs.now c.args.labels.now.items c.args.n c.index-head.result.now c.requires.safe c.requires.within c.index-head.ensures in
    let tail = t.label in
    (λ h. let more = c.exceeds.ensures.0 h in omega (arith, ints), λ h. c.exceeds.ensures.1 (omega (arith, ints)))
