use Rattle.std.proofs.Common.{List, length, ap, ◌∙◌, subst}
use Rattle.std.specs.Prelude.{slice_get}
use Rattle.private_elim.specs.ReducedViews.{ReducedView}
use Rattle.conflict_cycle.specs.Belongs.{ArePublishedOf}
use Rattle.conflict_cycle.proofs.tests.parts_of.Goals as goal

pub new-requires-clause-belongs : goal.new-requires-clause-belongs
new-requires-clause-belongs c = record {
  reduced = c.in_ok-reduced.ensures.reduced;
  stands = c.in_ok-shared.ensures.stands;
  published = subst (λ (parts : List ReducedView). ArePublishedOf parts c.in_ok-shared.shared.state) c.as_slice.ensures.value c.in_ok-shared.ensures.published;
  one_each = c.in_ok-bounds.ensures.one_each ∙ ap (λ (parts : List ReducedView). length parts) c.as_slice-2.ensures.value;
  back = λ a r b there. c.in_ok-bounds.ensures.back a r b (ap (λ (parts : List ReducedView). slice_get parts a) c.as_slice-2.ensures.value ∙ there);
}
