-- The line that ends the script says what the text says, and what the text says is possible in the network.
use Rattle.std.proofs.Common.{◌≡◌, ◌+◌, ◌*◌, ◌≤◌, length, arith}
use Rattle.stn_model.specs.Limits.{most_arcs}
use Rattle.script_text.specs.Scripts.{reading_of, line_does}
use Rattle.script_text.specs.Scripts.Step.{Ends}
use Rattle.script_text.proofs.Turns.{ends}
use Rattle.script_text.proofs.Grows.{script_is}
use Rattle.script_text.proofs.Prefix.{prefix_is_read}
use Rattle.script_text.proofs.read.read_script.Goals as goal

pub returns-in-Ends-clause-prefix : goal.returns-in-Ends-clause-prefix
returns-in-Ends-clause-prefix c =
    let was = c.loop-text in
    let after = c.next_line.new.self in
    let does : line_does c.args.net.now (reading_of was.stage) c.in-Some.text.now ≡ Ends c.take_line.new.stage.commands.items =
    (rw c.in-Ends.is at c.in-Ok.ensures) in
    prefix_is_read c.args.net.now c.args.first_line c.args.bytes.now _
    (ends c.args.net.now c.args.first_line c.args.bytes.now (reading_of was.stage) was.lines.rest.now was.lines.used was.lines.count c.in-Some.text.now
    after.rest.now after.used after.count _ was.invariant c.in-Some.ensures.taken does)

pub returns-in-Ends-clause-possible : goal.returns-in-Ends-clause-possible
returns-in-Ends-clause-possible c =
    let was = c.loop-text in
    let after = c.next_line.new.self in
    let few : 2 * length c.args.net.now.acts + length c.args.net.now.given ≤ most_arcs =
    omega (arith, c.counted_arcs.ensures.count, c.counted_arcs.ensures.few) in
    let does : line_does c.args.net.now (reading_of was.stage) c.in-Some.text.now ≡ Ends c.take_line.new.stage.commands.items =
    (rw c.in-Ends.is at c.in-Ok.ensures) in
    script_is c.args.net.now c.args.first_line c.args.bytes.now _ few
    (ends c.args.net.now c.args.first_line c.args.bytes.now (reading_of was.stage) was.lines.rest.now was.lines.used was.lines.count c.in-Some.text.now
    after.rest.now after.used after.count _ was.invariant c.in-Some.ensures.taken does)
