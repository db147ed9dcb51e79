use Rattle.decoupling_facts.proofs.Boxes.{times_boxes}
use Rattle.decoupling_facts.proofs.laws.times_are_boxes.Goals as goal

pub returns : goal.returns
returns c = λ arcs joined final finals is_set value first zero keeps externals among has_box boxed e at.
    times_boxes arcs joined final finals is_set value first zero keeps externals among has_box boxed e at
