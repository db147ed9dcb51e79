use Rattle.std.proofs.Common.{◌≡◌}
use Rattle.dispatcher.specs.Plans.{none_chosen}
use Rattle.dispatcher.proofs.plan.none_chosen.Given as goal

abbrev pub invariant-loop-label : goal.invariant-loop-label
invariant-loop-label l = l.choices.items ≡ none_chosen l._label
