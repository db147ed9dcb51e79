-- A network's refusal is the line's.
use Rattle.std.proofs.Common.{◌≡◌, to_z, of_z, w64, arith}
use Rattle.std.proofs.lemmas.Int.{ints}
use Rattle.stn_model.specs.Net.{with_act}
use Rattle.stn_model.specs.Refusals.{act_refusal}
use Rattle.net_text.proofs.Refused.{refused_so, accepted_so}
use Rattle.net_text.proofs.entries.add_act.Goals as goal

pub returns-in-Err : goal.returns-in-Err
returns-in-Err c =
    let low_fits = c.ranges.low.sfits in
    let high_fits = c.ranges.high.sfits in
    let low : to_z w64 (of_z w64 c.args.low) ≡ c.args.low = omega (arith, ints) in
    let high : to_z w64 (of_z w64 c.args.high) ≡ c.args.high = omega (arith, ints) in
    rw c.refused.ensures (refused_so (act_refusal c.args.net.now c.args.name.now c.args.low c.args.high) c.add_act.result c.in-Err.error
    (with_act c.args.net.now c.args.agent.0 c.args.name.now c.args.low c.args.high) c.add_act.new.self
    (rw (low, high) at c.add_act.ensures.refusals) c.in-Err.is)

pub returns : goal.returns
returns c =
    let low_fits = c.ranges.low.sfits in
    let high_fits = c.ranges.high.sfits in
    let low : to_z w64 (of_z w64 c.args.low) ≡ c.args.low = omega (arith, ints) in
    let high : to_z w64 (of_z w64 c.args.high) ≡ c.args.high = omega (arith, ints) in
    accepted_so (act_refusal c.args.net.now c.args.name.now c.args.low c.args.high) c.add_act.result c.in_default.field-0
    (with_act c.args.net.now c.args.agent.0 c.args.name.now c.args.low c.args.high) c.add_act.new.self
    (rw (low, high) at c.add_act.ensures.refusals) c.in_default.is
    (rw (low, high) at c.in_default.ensures.ok.1)
