-- Nothing is lost in the wider numbers.
use Rattle.std.proofs.Common.{◌≡◌, ◌+ℤ◌, int_lt, ap₂, arith}
use Rattle.std.proofs.lemmas.Int.{ints}
use mir.Val.{to_z, of_z}
use mir.Syntax.{w128}
use Rattle.cert_check.proofs.row.is_more.Goals as goal

pub returns : goal.returns
returns c =
    let sum : to_z w128 (of_z w128 (to_z w128 (of_z w128 c.from.result) +ℤ to_z w128 (of_z w128 c.from-2.result))) ≡ c.args.less +ℤ c.args.bound = omega (arith, ints) in
    let more : to_z w128 (of_z w128 c.from-3.result) ≡ c.args.more = omega (arith, ints) in
    ap₂ int_lt sum more
