use Rattle.std.proofs.Common.{map, ap, ◌∙◌}
use Rattle.mastn.specs.Commands.{entry_of}
use Rattle.mastn.proofs.commands.least_bounds.Goals as goal

pub returns : goal.returns
returns c = (c.in_ok-edges.edges.items, c.in_ok-edges.ensures, c.in_ok-bounds.ensures ∙ ap (map entry_of) c.as_slice.ensures.value)
