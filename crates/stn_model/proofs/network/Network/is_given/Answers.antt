use Rattle.std.proofs.Common.{length, ◌∙◌, ap, ◌+◌, arith}
use Rattle.stn_model.specs.Net.{fixed_count}
use Rattle.stn_model.proofs.NetLemmas.{length-arcs_of}
use Rattle.stn_model.proofs.ArcLemmas.{given_test}
use Rattle.stn_model.proofs.network.Network.is_given.Goals as goal

pub returns-then-fixed_arcs-n : goal.returns-then-fixed_arcs-n
returns-then-fixed_arcs-n c =
    let net = c.args.self.now in
    let fixed = c.fixed_arcs.ensures.count in
    given_test (fixed_count net) c.args.n c.arcs.result (length net.given) (omega (arith, fixed)) (c.arcs.ensures.count ∙ length-arcs_of net)
