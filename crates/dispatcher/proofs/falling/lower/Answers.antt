use Rattle.std.proofs.Common.{arith, refl, to_z, of_z, ◌+ℤ◌, ℤ}
use Rattle.std.specs.Int.{w128}
use Rattle.std.proofs.lemmas.Int.{ints}
use Rattle.stn_model.specs.Arcs.{from_at, to_at, bound_at}
use Rattle.dispatcher.proofs.Fallen.{reads_tail, lowered, lowered_less}
use Rattle.dispatcher.proofs.falling.lower.Goals as goal

pub overflow_add-tail : goal.overflow_add-tail
overflow_add-tail c =
    let t = reads_tail c.args.arcs.now c.args.labels.now.items c.args.n c.index-tail.result.now c.requires.safe c.requires.within c.index-tail.ensures in
    let low = t.low in
    let high = t.high in
    let bound_low = t.bound_low in
    let bound_high = t.bound_high in
    let bound = c.from.ensures in
    omega (arith, ints)

pub returns-clause-falls : goal.returns-clause-falls
returns-clause-falls c =
    let arcs = c.args.arcs.now in
    let labels = c.args.labels.now.items in
    let n = c.args.n in
    let t = reads_tail arcs labels n c.index-tail.result.now c.requires.safe c.requires.within c.index-tail.ensures in
    let label = t.label in
    let low = t.low in
    let high = t.high in
    let bound_low = t.bound_low in
    let bound_high = t.bound_high in
    let bound = c.from.ensures in
    let broken = c.requires.broken in
    let time : ℤ = to_z w128 (of_z w128 (to_z w128 (of_z w128 c.index-tail.result.now) +ℤ to_z w128 (of_z w128 c.from.result))) in
    lowered arcs labels c.requires.safe n (from_at arcs n) (to_at arcs n) (bound_at arcs n) time c.requires.within refl refl refl
    (omega (arith, ints)) (omega (arith, ints))

pub returns-clause-less : goal.returns-clause-less
returns-clause-less c =
    let arcs = c.args.arcs.now in
    let labels = c.args.labels.now.items in
    let n = c.args.n in
    let t = reads_tail arcs labels n c.index-tail.result.now c.requires.safe c.requires.within c.index-tail.ensures in
    let label = t.label in
    let low = t.low in
    let high = t.high in
    let bound_low = t.bound_low in
    let bound_high = t.bound_high in
    let bound = c.from.ensures in
    let broken = c.requires.broken in
    let time : ℤ = to_z w128 (of_z w128 (to_z w128 (of_z w128 c.index-tail.result.now) +ℤ to_z w128 (of_z w128 c.from.result))) in
    lowered_less arcs labels c.requires.safe n (from_at arcs n) (to_at arcs n) (bound_at arcs n) time c.requires.within refl refl refl
    (omega (arith, ints)) (omega (arith, ints))
