use Rattle.std.proofs.Common.{◌≡◌, ◌≢◌, ◌+◌, length, get_or, arith}
use Rattle.plain_solve.proofs.Trees.{all_placed}
use Rattle.plain_solve.proofs.OrderLemmas.{whole_order}
use Rattle.plain_solve.proofs.order.arrange.Goals as goal

pub passes-smaller : goal.passes-smaller
passes-smaller c =
    let more = c.in_ok-place_all.ensures.grows.more in
    let few = c.in_ok-place_all.ensures.grows.order.few in
    let apart = c.if-len-before.false in
    omega (arith, c.len.ensures, c.len-before.ensures, c.passes.arranged.order.ok.0, c.place_all.new.arranged.order.ok.0)

pub returns : goal.returns
returns c =
    let g = c.args.graph.now in
    let s = c.args.labels.now in
    let h = c.requires.forced in
    let old = c.passes.arranged in
    let new = c.place_all.new.arranged in
    let equal = c.if-len-before.true in
    let same : length old.order.items ≡ length new.order.items = omega (arith, c.len.ensures, c.len-before.ensures, old.order.ok.0, new.order.ok.0) in
    whole_order g s.last_arcs.items new.order.items new.places.items c.in_ok-place_all.ensures.grows.order
    (λ p away within fresh.
    all_placed g s.times.items s.last_arcs.items s.raises h c.requires.graph c.requires.rest new.places.items (c.in_ok-place_all.ensures.tried same)
    (get_or h.stamps p 0 + 1) p (omega arith) away within fresh)
