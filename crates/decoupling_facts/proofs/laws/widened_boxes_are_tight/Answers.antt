use Rattle.decoupling_facts.proofs.Boxes.{all_keep, all_tight}
use Rattle.decoupling_facts.proofs.laws.widened_boxes_are_tight.Goals as goal

pub returns : goal.returns
returns c = λ final externals has_box value ends e f boxes ws boxed h. (
  all_keep final externals has_box value ends ws boxed e f boxes h,
  all_tight final externals has_box value ends ws boxed e f boxes h,
)
