use Rattle.std.proofs.Common.{◌≡◌, true, refl, sym, ap, subst, length}
use Rattle.std.specs.Prelude.{is_some}
use Rattle.shared_graph.specs.declared.events.By.TheVariants.{Agent}
use Rattle.shared_graph.specs.declared.events.Event.{Event}
use Rattle.shared_graph.specs.declared.events.Phase.{Phase}
use Rattle.shared_graph.specs.Journals.{is_step_of}
use Rattle.shared_graph.specs.Refusals.{refusal}
use Rattle.claim_pass.specs.Lent.{entry_of, IsLeastBy}
use Rattle.claim_pass.proofs.Offers.{least_by, none_by}
use Rattle.claim_pass.proofs.lent.step_lent.Goals as goal

pub returns-in_default : goal.returns-in_default
returns-in_default c =
    let v = c.args.shared.now in (
      subst (λ (ph : Phase). (f : Event) → is_step_of ph f ≡ true → is_some (refusal v.face v.state (entry_of c.args.agent f)) ≡ true) (sym c.requires.phase)
          (none_by c.args.agent v.face v.state c.in_default.ensures.none),
      refl,
    )

pub revisit_by-requires-clause-legal : goal.revisit_by-requires-clause-legal
revisit_by-requires-clause-legal c = c.in-Some.ensures.some.legal (Agent c.args.agent)

pub returns : goal.returns
returns c =
    let v = c.args.shared.now in (
      (
        c.in-Some.point,
        subst (λ (ph : Phase). IsLeastBy c.args.agent ph v.face v.state c.in-Some.point) (sym c.requires.phase)
            (least_by c.args.agent v.face v.state c.in-Some.point c.in-Some.ensures.some),
        c.revisit_by.ensures,
      ),
      ap length c.journal.ensures.journal,
    )
