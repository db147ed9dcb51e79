use Rattle.std.proofs.Common.{List, sym, subst}
use Rattle.private_elim.specs.ReducedViews.{ReducedView}
use Rattle.agent_worker.specs.Backs.{ArePartsOfOne, AreBacks}
use Rattle.joined_answer.proofs.Belongs.{of_one, belonging}
use Rattle.joined_answer.proofs.parts.joined_of.Goals as goal

pub back_phase-requires-clause-parts : goal.back_phase-requires-clause-parts
back_phase-requires-clause-parts g c κs within = (
  c.args.net.now,
  subst (λ (rs : List ReducedView). ArePartsOfOne c.args.net.now rs c.args.shared) (sym c.as_slice.ensures.value)
      (of_one c.args.net.now c.args.reduced.items c.args.shared c.requires.solved),
)

pub new-parts-requires-clause-belongs : goal.new-parts-requires-clause-belongs
new-parts-requires-clause-belongs g c =
    belonging c.args.net.now c.args.reduced.items c.args.shared c.requires.solved c.in_ok-bounds.bounds.items
    (subst (λ (rs : List ReducedView). AreBacks c.args.shared rs c.in_ok-bounds.bounds.items) c.as_slice.ensures.value c.in_ok-bounds.ensures)
