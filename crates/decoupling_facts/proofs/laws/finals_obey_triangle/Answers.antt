use Rattle.decoupling_facts.proofs.FinalBounds.{finals_obey}
use Rattle.decoupling_facts.proofs.laws.finals_obey_triangle.Goals as goal

pub returns : goal.returns
returns c = λ arcs joined final h. finals_obey arcs joined final h
