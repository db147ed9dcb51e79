use Rattle.std.proofs.Common.{arith, false}
use Rattle.std.proofs.lemmas.Bool.{false≢true}
use Rattle.std.proofs.lemmas.Int.{ints}
use Rattle.mastn.proofs.OriginBounds.{origin_joined, origin_light}
use Rattle.mastn.proofs.commands.origin_bound.Goals as goal

pub unreachable-requires : goal.unreachable-requires
unreachable-requires c =
    false≢true (c.in-None.ensures.joined.1 (origin_joined c.args.joined.now.network _ c.args.i.0 c.args.j.0 c.requires.ends))

pub returns-clause-light : goal.returns-clause-light
returns-clause-light c =
    let light = origin_light c.args.joined.now.network c.args.i.0 c.args.j.0 c.in-Some.bound c.network-network.ensures.joined.network c.requires.ends
    c.in-Some.ensures.least in
    omega (arith, ints)
