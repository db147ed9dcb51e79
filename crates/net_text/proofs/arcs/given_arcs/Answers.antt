-- All arcs but those that were not given.
use Rattle.std.proofs.Common.{arith}
use Rattle.stn_model.proofs.NetLemmas.{length-arcs_of}
use Rattle.net_text.proofs.arcs.given_arcs.Goals as goal

pub overflow_sub-result : goal.overflow_sub-result
overflow_sub-result c = omega (arith, length-arcs_of c.args.net.now)

pub returns : goal.returns
returns c = omega (arith, length-arcs_of c.args.net.now)
