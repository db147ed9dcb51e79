use Rattle.std.proofs.Common.{◌≡◌, true, ap, sym, ◌∙◌, arith, length, subst, below_more}
use Rattle.shared_graph.specs.declared.events.Phase.TheVariants.{Order}
use Rattle.shared_graph.specs.Histories.{AreFitting}
use Rattle.shared_graph.specs.Interfaces.{InterfaceView}
use Rattle.shared_graph.specs.States.{is_published}
use Rattle.shared_graph.proofs.graphs.Finishing.{finished_nothing, finished_join}
use Rattle.shared_graph.proofs.shared.Shared.publish_all.Goals as goal

pub loop-agent-init : goal.loop-agent-init
loop-agent-init c = record {
  finished = finished_nothing c.args.summaries.now Order c.args.self.now c.requires.agree;
  going = c.requires.going;
  before = λ a low. absurd (omega arith);
}

pub publish_left-requires-clause-going : goal.publish_left-requires-clause-going
publish_left-requires-clause-going c = c.loop-agent.invariant.going

pub publish_left-requires-clause-one_each : goal.publish_left-requires-clause-one_each
publish_left-requires-clause-one_each c = c.requires.one_each ∙ sym (ap (λ (f : InterfaceView). length f.leans) c.loop-agent.invariant.finished.face)

pub publish_left-requires-clause-fitting : goal.publish_left-requires-clause-fitting
publish_left-requires-clause-fitting c =
    subst (λ (f : InterfaceView). AreFitting f c.args.summaries.now) (sym c.loop-agent.invariant.finished.face) c.requires.fitting

pub publish_left-requires-clause-agree : goal.publish_left-requires-clause-agree
publish_left-requires-clause-agree c = c.loop-agent.invariant.finished.agree

pub publish_left-requires-clause-within : goal.publish_left-requires-clause-within
publish_left-requires-clause-within c =
    let many : c.agents-agent-end.result ≡ length c.loop-agent.self.face.leans =
    c.agents-agent-end.ensures ∙ ap (λ (f : InterfaceView). length f.leans) (c.interface.ensures.face ∙ sym c.loop-agent.invariant.finished.face) in
    let low = c.loop-agent-test.true in
    omega arith

pub publish_left-requires-clause-before : goal.publish_left-requires-clause-before
publish_left-requires-clause-before c = c.loop-agent.invariant.before

pub returns-in_err-publish_left-clause-finished : goal.returns-in_err-publish_left-clause-finished
returns-in_err-publish_left-clause-finished c =
    finished_join c.args.summaries.now Order c.args.self.now c.loop-agent.self c.publish_left.new.self c.loop-agent.invariant.finished
    c.publish_left.ensures.finished

pub loop-agent-preserved : goal.loop-agent-preserved
loop-agent-preserved c = record {
  finished =
      finished_join c.args.summaries.now Order c.args.self.now c.loop-agent.self c.publish_left.new.self c.loop-agent.invariant.finished
      c.publish_left.ensures.finished;
  going = c.publish_left.ensures.going;
  before =
      below_more (λ a. is_published c.publish_left.new.self.state a ≡ true) c.loop-agent.agent
      (λ a low. c.publish_left.ensures.kept a (c.loop-agent.invariant.before a low)) c.in_ok-publish_left.ensures.published;
}

pub returns-clause-finished : goal.returns-clause-finished
returns-clause-finished c = c.loop-agent.invariant.finished

pub returns-clause-going : goal.returns-clause-going
returns-clause-going c = c.loop-agent.invariant.going

pub returns-clause-all : goal.returns-clause-all
returns-clause-all c a low =
    let many : c.agents-agent-end.result ≡ length c.loop-agent.self.face.leans =
    c.agents-agent-end.ensures ∙ ap (λ (f : InterfaceView). length f.leans) (c.interface.ensures.face ∙ sym c.loop-agent.invariant.finished.face) in
    let end = c.loop-agent-test.false in
    c.loop-agent.invariant.before a (omega arith)
