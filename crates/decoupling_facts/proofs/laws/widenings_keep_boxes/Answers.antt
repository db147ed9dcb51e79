use Rattle.decoupling_facts.proofs.Boxes.{widening_keeps, widening_grows}
use Rattle.decoupling_facts.proofs.laws.widenings_keep_boxes.Goals as goal

pub returns : goal.returns
returns c = λ final externals has_box value ends e f boxes w boxed h. (
  widening_keeps final externals has_box value ends w boxed e f boxes h,
  widening_grows final externals has_box value ends w boxed e f boxes h,
)
