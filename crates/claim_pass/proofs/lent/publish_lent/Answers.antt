use Rattle.std.proofs.Common.{refl, sym, ap, ◌∙◌, subst, length}
use Rattle.std.proofs.lemmas.Bool.{false≢true}
use Rattle.shared_graph.specs.Interfaces.{InterfaceView, IsFitting}
use Rattle.claim_pass.proofs.lent.publish_lent.Goals as goal

pub returns-then-not-fits-clause-answer : goal.returns-then-not-fits-clause-answer
returns-then-not-fits-clause-answer c = (
  sym c.in_default.ensures,
  (λ fit. false≢true (sym c.if-not-fits.true
      ∙ c.fits.ensures.1 (subst (λ (f : InterfaceView). IsFitting f c.args.agent.0 c.args.summary.now) (sym c.interface.ensures.face) fit))),
  refl,
)

pub publish-requires-clause-fits : goal.publish-requires-clause-fits
publish-requires-clause-fits c =
    subst (λ (f : InterfaceView). IsFitting f c.args.agent.0 c.args.summary.now) c.interface.ensures.face (c.fits.ensures.0 c.if-not-fits.false)

pub returns-clause-answer : goal.returns-clause-answer
returns-clause-answer c = (
  sym c.in_default.ensures,
  subst (λ (f : InterfaceView). IsFitting f c.args.agent.0 c.args.summary.now) c.interface.ensures.face (c.fits.ensures.0 c.if-not-fits.false),
  ap length c.journal.ensures.journal,
  (c.publish.ensures.face, c.in_ok-publish.ensures.state, c.in_ok-publish.ensures.journal),
)
