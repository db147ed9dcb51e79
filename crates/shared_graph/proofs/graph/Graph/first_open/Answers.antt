use Rattle.std.proofs.Common.{ℕ, ap, sym, ◌∙◌, not, arith}
use Rattle.stn_walk.specs.Eliminations.{is_in}
use Rattle.shared_graph.proofs.graphs.Scans.{all_taken, listed_item, passing_same, passing_here, passing_on, passing_past}
use Rattle.shared_graph.proofs.graph.Graph.first_open.Goals as goal

pub returns-then-self-eq0 : goal.returns-then-self-eq0
returns-then-self-eq0 g c = rw (← c.self.view_is) (sym (all_taken _ c.self.invariant c.if-self-eq0.true))

pub loop-point-init : goal.loop-point-init
loop-point-init g c =
    passing_same (λ (p : ℕ). not (is_in c.args.self.now.state.order p)) _ _ (rw (← c.self.view_is) (sym c.points-point-items.ensures.points))

pub is_taken-requires : goal.is_taken-requires
is_taken-requires g c =
    rw (← c.self.view_is) (listed_item c.self.inside.interface c.points-point-items.result.now c.loop-point.point-index c.points-point-items.ensures.points
    c.loop-point-test.true)

pub returns-then-not-is_taken : goal.returns-then-not-is_taken
returns-then-not-is_taken g c =
    sym (c.loop-point.invariant ∙ passing_here (λ (p : ℕ). not (is_in c.args.self.now.state.order p)) c.points-point-items.result.now c.loop-point.point-index
    c.loop-point-test.true (ap not (sym c.is_taken.ensures ∙ c.if-not-is_taken.true)))

pub loop-point-preserved : goal.loop-point-preserved
loop-point-preserved g c =
    c.loop-point.invariant ∙ passing_on (λ (p : ℕ). not (is_in c.args.self.now.state.order p)) c.points-point-items.result.now c.loop-point.point-index
    c.loop-point-test.true (ap not (sym c.is_taken.ensures ∙ c.if-not-is_taken.false))

pub returns : goal.returns
returns g c =
    sym (c.loop-point.invariant ∙ passing_past (λ (p : ℕ). not (is_in c.args.self.now.state.order p)) c.points-point-items.result.now c.loop-point.point-index
    (omega arith))
