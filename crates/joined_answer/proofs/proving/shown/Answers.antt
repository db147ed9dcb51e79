use Rattle.std.proofs.Common.{arith}
use Rattle.std.proofs.lemmas.Int.{ints}
use Rattle.joined_answer.proofs.LeastWalks.{proof_of}
use Rattle.joined_answer.proofs.proving.shown.Goals as goal

pub returns : goal.returns
returns c =
    let net = c.args.net.now in
    let t = c.args.distances.now in
    let valid = c.requires.network in
    let least = c.requires.least in
    let told = c.in_ok-schedule.ensures in
    let pruned = c.in_ok-walk.ensures in
    let kept = c.dist-bound.ensures.kept in
    let many = least.one_each in
    let to = c.requires.to in
    let light = c.dist-bound.ensures.valid.range c.args.j.0 (omega arith) in
    let low = light.0 in
    let high = light.1 in
    proof_of net t c.args.i.0 c.args.j.0 _ c.args.whole.now c.in_ok-walk.walk c.in_ok-schedule.schedule c.requires.from c.requires.to least c.requires.weighs
    pruned.walk pruned.simple pruned.weight (told.satisfies net valid least) (told.attains net valid least) (omega (arith, ints))
