use Rattle.stn_model.specs.Net.{arcs_of, point_count}
use Rattle.stn_model.proofs.WalkLemmas.{no_schedule}
use Rattle.mastn.proofs.repair.repairs.Goals as goal

pub add_answers-requires : goal.add_answers-requires
add_answers-requires c s = no_schedule (arcs_of c.args.net.now) (point_count c.args.net.now) c.args.cycle.now c.requires.cycle s
