-- The step stands after the others, and fillers after it.
use Rattle.std.proofs.Common.{◌<◌, arith, length-take-le}
use Rattle.json_net.specs.Paths.{longest_path}
use Rattle.json_net.proofs.Filled.{one_more}
use Rattle.json_net.proofs.path.Path.then.Goals as goal

pub invariant_of-result : goal.invariant_of-result
invariant_of-result c =
    let counted = length-take-le c.self.inside.count c.self.inside.steps (omega (arith, c.self.invariant.count, c.self.invariant.room)) in
    let room : c.self.inside.count < longest_path = omega (arith, rw (← c.self.view_is) at c.requires, counted) in
    one_more c.self.inside c.args.step c.self.invariant room
