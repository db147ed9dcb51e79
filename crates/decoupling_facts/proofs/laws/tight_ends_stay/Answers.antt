use Rattle.decoupling_facts.proofs.Boxes.{widening_tight, tight_stays}
use Rattle.decoupling_facts.proofs.laws.tight_ends_stay.Goals as goal

pub returns : goal.returns
returns c = λ final externals has_box value ends e f boxes w boxed h.
    (widening_tight final externals w e f h, tight_stays final externals has_box value ends w boxed e f boxes h)
