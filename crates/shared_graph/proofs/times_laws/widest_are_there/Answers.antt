use Rattle.shared_graph.proofs.times.Widening.{widest_low_there, widest_high_there, done_with}
use Rattle.shared_graph.proofs.times_laws.widest_are_there.Goals as goal

pub returns : goal.returns
returns c = λ face known s together holds set k listed.
    (let done = done_with face known s holds set k listed in
    (widest_low_there face known s together done set k listed, widest_high_there face known s together done set k listed))
