use Rattle.std.proofs.Common.{sym, ◌∙◌}
use Rattle.private_elim.proofs.taking.Choices.{listed_next}
use Rattle.private_elim.proofs.eliminate.listed_place.Goals as goal

pub returns : goal.returns
returns c =
    listed_next c.args.elimination.now c.args.order.now c.args.n c.in-Some.place c.requires.within c.requires.taken c.requires.private c.requires.once
    (rw c.local.ensures at (sym c.place_of.ensures ∙ c.in-Some.is))
