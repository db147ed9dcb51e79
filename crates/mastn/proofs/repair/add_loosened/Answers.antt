use Rattle.std.proofs.Common.{ap, arith}
use Rattle.std.proofs.lemmas.Int.{ints}
use Rattle.least_repair.proofs.OtherBound.{given_in_range}
use Rattle.mastn.proofs.Answering.{set_back}
use Rattle.mastn.proofs.repair.add_loosened.Goals as goal

pub arc-bound-requires : goal.arc-bound-requires
arc-bound-requires c = given_in_range c.args.net.now c.args.arc c.requires.given

pub returns-clause-net : goal.returns-clause-net
returns-clause-net c =
    let own = ap (λ a. a.bound) c.arc-bound.ensures.arc in
    set_back c.args.net.now c.args.arc c.requires.given c.set_bound.new.self c.set_bound-2.new.self _ _ c.set_bound.ensures c.set_bound-2.ensures (omega (arith, ints))
