use Rattle.std.proofs.Common.{◌≡◌, ℕ, ◌+◌, ◌*◌, Bool, true, false, arith}
use mir.Val.{bool_byte}
use Rattle.tri_solve.specs.Layouts.{side}
use Rattle.tri_solve.specs.Views.{bounds_of}
use Rattle.tri_solve.proofs.BestLabels.{first_is, best_first, best_last, edge_within, edge_begins, edge_light, next_falls, best_next}
use Rattle.tri_solve.proofs.bounds.ChordalBounds.reached.Goals as goal

side_place : (p : ℕ) (up : Bool) (r : ℕ) → r ≡ bool_byte up → 2 * p + r ≡ side p up
side_place p true r is = omega arith
side_place p false r is = omega arith

pub edges-init : goal.edges-init
edges-init c =
    let b = bounds_of c.self.inside in
    let whole = c.self.invariant in
    let first = first_is (bounds_of c.self.inside) whole.bounds c.args.labels.now c.args.p.0 c.args.up c.self.inside.lasts.items c.self.inside.befores.items whole.laid_out
    (rw (← c.self.view_is) at c.requires.within) _ c.index-at.result.now (side_place c.args.p.0 c.args.up c.from.result c.from.ensures) c.index-at.ensures in
    record { whole = whole; best = best_first (bounds_of c.self.inside) whole.bounds c.args.labels.now c.args.p.0 c.args.up c.index-at.result.now first }

pub index-edge-requires : goal.index-edge-requires
index-edge-requires c =
    let whole = c.edges.invariant.whole in
    let lt = edge_within (bounds_of c.self.inside) whole.bounds c.args.labels.now c.args.p.0 c.args.up c.edges.at c.edges.best c.edges.invariant.best c.edges-test.true in
    omega (arith, c.self.inside.edges.ok.0)

pub bounds-labels-edge : goal.bounds-labels-edge
bounds-labels-edge c =
    let whole = c.edges.invariant.whole in
    let lt = edge_begins (bounds_of c.self.inside) whole.bounds c.args.labels.now c.args.p.0 c.args.up c.edges.at c.edges.best c.edges.invariant.best c.edges-test.true
    c.index-edge.result.now c.index-edge.ensures in
    let many = rw (← c.self.view_is) at c.requires.points in
    omega arith

pub offer-requires-clause-edge_range : goal.offer-requires-clause-edge_range
offer-requires-clause-edge_range c =
    edge_light (bounds_of c.self.inside) c.edges.invariant.whole.bounds c.args.labels.now c.args.p.0 c.args.up c.edges.at c.edges.best c.edges.invariant.best
    c.edges-test.true c.index-edge.result.now c.index-edge.ensures

pub index-at-requires-in-edges : goal.index-at-requires-in-edges
index-at-requires-in-edges c =
    let whole = c.edges.invariant.whole in
    let lt = edge_within (bounds_of c.self.inside) whole.bounds c.args.labels.now c.args.p.0 c.args.up c.edges.at c.edges.best c.edges.invariant.best c.edges-test.true in
    omega (arith, c.self.inside.befores.ok.0, whole.laid_out.numbers)

pub edges-smaller : goal.edges-smaller
edges-smaller c =
    let whole = c.edges.invariant.whole in
    next_falls (bounds_of c.self.inside) whole.bounds c.args.labels.now c.args.p.0 c.args.up c.edges.at c.edges.best c.edges.invariant.best c.edges-test.true
    c.index-edge.result.now c.index-edge.ensures c.self.inside.lasts.items c.self.inside.befores.items whole.laid_out c.index-at-in-edges.result.now
    c.index-at-in-edges.ensures

pub edges-preserved : goal.edges-preserved
edges-preserved c =
    let whole = c.edges.invariant.whole in
    record {
      whole = whole;
      best = best_next (bounds_of c.self.inside) whole.bounds c.args.labels.now c.args.p.0 c.args.up c.edges.at c.edges.best c.edges.invariant.best c.edges-test.true
          c.index-edge.result.now c.index-edge.ensures c.self.inside.lasts.items c.self.inside.befores.items whole.laid_out c.index-at-in-edges.result.now
          c.index-at-in-edges.ensures c.offer.result c.lesser-best.result c.offer.ensures c.lesser-best.ensures;
    }

pub returns-clause-number : goal.returns-clause-number
returns-clause-number c =
    rw (← c.self.view_is) (best_last (bounds_of c.self.inside) c.edges.invariant.whole.bounds c.args.labels.now c.args.p.0 c.args.up c.edges.at c.edges.best
    c.edges-test.false c.edges.invariant.best)

pub returns-clause-via : goal.returns-clause-via
returns-clause-via c = rw (← c.self.view_is) c.edges.invariant.best.via
