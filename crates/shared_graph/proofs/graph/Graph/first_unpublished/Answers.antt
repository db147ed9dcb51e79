use Rattle.std.proofs.Common.{ℕ, ap, sym, ◌∙◌, not, length, ◌≡◌, ◌<◌, subst, arith}
use Rattle.shared_graph.specs.States.{is_published}
use Rattle.shared_graph.proofs.states.Progress.{all_below}
use Rattle.shared_graph.proofs.graphs.Scans.{below_is, none_counted}
use Rattle.shared_graph.proofs.graph.Graph.first_unpublished.Goals as goal

pub returns-then-self-eq0 : goal.returns-then-self-eq0
returns-then-self-eq0 g c =
    let none = none_counted _ _ (sym c.self.invariant.unpublished ∙ c.if-self-eq0.true) in
    rw (← c.self.view_is) (sym (all_below _ _ none))

pub returns-then-not-is_published : goal.returns-then-not-is_published
returns-then-not-is_published g c =
    let len : c.agents-agent-end.result ≡ length c.args.self.now.face.leans = rw (← c.self.view_is) c.agents-agent-end.ensures in
    let lt = c.loop-agent-test.true in
    sym (below_is (λ (a : ℕ). not (is_published c.args.self.now.state a)) (length c.args.self.now.face.leans) c.loop-agent.agent
    (subst (λ n. c.loop-agent.agent < n) len lt)
    (ap not (sym c.is_published.ensures ∙ c.if-not-is_published.true)) (λ a low. ap not (c.loop-agent.invariant a low)))

pub returns : goal.returns
returns g c =
    let len : c.agents-agent-end.result ≡ length c.args.self.now.face.leans = rw (← c.self.view_is) c.agents-agent-end.ensures in
    sym (all_below (λ (a : ℕ). not (is_published c.args.self.now.state a)) (length c.args.self.now.face.leans)
    (λ a low. ap not (c.loop-agent.invariant a (omega arith))))
