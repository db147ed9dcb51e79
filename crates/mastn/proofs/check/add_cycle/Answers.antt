use Rattle.stn_model.specs.Net.{arcs_of}
use Rattle.stn_walk.proofs.Heads.{in_range}
use Rattle.mastn.proofs.check.add_cycle.Goals as goal

pub cycle_part-requires : goal.cycle_part-requires
cycle_part-requires c = let cycle = c.requires in record { arcs = in_range (arcs_of c.args.net.now) cycle.start cycle.start c.args.cycle.now cycle.walk }
