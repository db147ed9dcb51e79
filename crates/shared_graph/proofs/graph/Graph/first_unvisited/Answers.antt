use Rattle.std.proofs.Common.{ℕ, ap, sym, ◌∙◌, not, arith}
use Rattle.stn_walk.specs.Eliminations.{is_in}
use Rattle.shared_graph.proofs.graphs.Scans.{all_revisited, listed_item, passing_same, passing_here, passing_on, passing_past}
use Rattle.shared_graph.proofs.graph.Graph.first_unvisited.Goals as goal

pub returns-then-self-eq0 : goal.returns-then-self-eq0
returns-then-self-eq0 g c = rw (← c.self.view_is) (sym (all_revisited _ c.self.invariant c.if-self-eq0.true))

pub loop-point-init : goal.loop-point-init
loop-point-init g c =
    passing_same (λ (p : ℕ). not (is_in c.args.self.now.state.revisited p)) _ _ (rw (← c.self.view_is) (sym c.points-point-items.ensures.points))

pub was_revisited-requires : goal.was_revisited-requires
was_revisited-requires g c =
    rw (← c.self.view_is) (listed_item c.self.inside.interface c.points-point-items.result.now c.loop-point.point-index c.points-point-items.ensures.points
    c.loop-point-test.true)

pub returns-then-not-was_revisited : goal.returns-then-not-was_revisited
returns-then-not-was_revisited g c =
    sym (c.loop-point.invariant ∙ passing_here (λ (p : ℕ). not (is_in c.args.self.now.state.revisited p)) c.points-point-items.result.now
    c.loop-point.point-index
    c.loop-point-test.true (ap not (sym c.was_revisited.ensures ∙ c.if-not-was_revisited.true)))

pub loop-point-preserved : goal.loop-point-preserved
loop-point-preserved g c =
    c.loop-point.invariant ∙ passing_on (λ (p : ℕ). not (is_in c.args.self.now.state.revisited p)) c.points-point-items.result.now c.loop-point.point-index
    c.loop-point-test.true (ap not (sym c.was_revisited.ensures ∙ c.if-not-was_revisited.false))

pub returns : goal.returns
returns g c =
    sym (c.loop-point.invariant ∙ passing_past (λ (p : ℕ). not (is_in c.args.self.now.state.revisited p)) c.points-point-items.result.now
    c.loop-point.point-index
    (omega arith))
