use Rattle.std.proofs.Common.{length, ap, sym, ◌∙◌, subst, refl}
use Rattle.shared_graph.specs.Histories.{AreFitting}
use Rattle.shared_graph.specs.Interfaces.{InterfaceView}
use Rattle.shared_graph.proofs.graphs.Replaying.{replay_begins, replay_next, replay_illegal, replay_ends}
use Rattle.shared_graph.proofs.shared.Shared.apply_all.Goals as goal

pub loop-n-init : goal.loop-n-init
loop-n-init g c = replay_begins c.args.self.now.face c.args.summaries.now c.args.entries.now c.args.self.now refl c.requires.state c.requires.journal

pub returns-in-Some : goal.returns-in-Some
returns-in-Some g c = record {
  applied =
      replay_illegal c.args.self.now.face c.args.summaries.now c.args.entries.now c.loop-n.n c.loop-n.self c.loop-n.invariant _ c.loop-n-test.true
      c.in-Some.cause (sym c.may.ensures ∙ c.in-Some.is);
}

pub apply-requires-clause-one_each : goal.apply-requires-clause-one_each
apply-requires-clause-one_each g c = c.requires.one_each ∙ sym (ap (λ (f : InterfaceView). length f.leans) c.loop-n.invariant.face_is)

pub apply-requires-clause-fitting : goal.apply-requires-clause-fitting
apply-requires-clause-fitting g c =
    subst (λ (f : InterfaceView). AreFitting f c.args.summaries.now) (sym c.loop-n.invariant.face_is) c.requires.fitting

pub loop-n-preserved : goal.loop-n-preserved
loop-n-preserved g c =
    replay_next c.args.self.now.face c.args.summaries.now c.args.entries.now c.loop-n.n c.loop-n.self c.loop-n.invariant _ c.loop-n-test.true
    c.apply.new.self (sym c.may.ensures ∙ c.in_default.is) c.apply.ensures.face c.in_ok-apply.ensures.state c.in_ok-apply.ensures.journal

pub returns : goal.returns
returns g c = record {
  applied =
      replay_ends c.args.self.now.face c.args.summaries.now c.args.entries.now c.loop-n.n c.loop-n.self c.loop-n.invariant c.loop-n-test.false;
}
