-- Either one of the next sixteen bytes is a stop, or all of them are plain.
use Rattle.std.proofs.Common.{refl, arith}
use Rattle.net_text.proofs.Stops.{stops_at, goes_past}
use Rattle.net_text.proofs.scan.plain_front.Goals as goal

pub returns-then-stops-ne0-clause-within : goal.returns-then-stops-ne0-clause-within
returns-then-stops-ne0-clause-within c =
    let now = c.loop-at in
    (stops_at c.args.bytes.now now.at c.stops-stops.result _ now.invariant.plain (omega arith) c.stops-stops.ensures (omega arith) refl).within

pub returns-then-stops-ne0-clause-plain : goal.returns-then-stops-ne0-clause-plain
returns-then-stops-ne0-clause-plain c =
    let now = c.loop-at in
    (stops_at c.args.bytes.now now.at c.stops-stops.result _ now.invariant.plain (omega arith) c.stops-stops.ensures (omega arith) refl).plain

pub loop-at-preserved : goal.loop-at-preserved
loop-at-preserved c =
    let now = c.loop-at in
    goes_past c.args.bytes.now now.at c.stops-stops.result now.invariant.plain (omega arith) c.stops-stops.ensures (omega arith)
