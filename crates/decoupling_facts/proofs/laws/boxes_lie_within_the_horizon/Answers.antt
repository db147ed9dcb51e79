use Rattle.decoupling_facts.proofs.Boxes.{box_range}
use Rattle.decoupling_facts.proofs.laws.boxes_lie_within_the_horizon.Goals as goal

pub returns : goal.returns
returns c = λ arcs joined final finals externals has_box value e boxes horizon k boxed up down.
    box_range arcs joined final finals externals has_box value e boxes horizon k boxed up down
