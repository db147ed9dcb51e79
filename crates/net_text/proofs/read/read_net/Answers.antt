-- Each line is taken and does its step.
use Rattle.std.proofs.Common.{◌≡◌, refl, sym}
use Rattle.net_text.specs.Networks.{line_does, text_of}
use Rattle.net_text.specs.Networks.Step.{Goes}
use Rattle.net_text.specs.Scans.{IsStep}
use Rattle.net_text.proofs.Progress.{goes_on, ended, stays_within}
use Rattle.net_text.proofs.ReadPrefix.{prefix_is_read}
use Rattle.net_text.proofs.read.read_net.Goals as goal

pub loop-step-preserved : goal.loop-step-preserved
loop-step-preserved c =
    let was = c.loop-step in
    let now = c.take_next.new.left in
    let did : IsStep was.lines.rest.now was.lines.used was.lines.count was.stage c.in-Ok.next c.take_next.new.stage now.rest.now now.used now.count =
    (rw c.in-Ok.is at c.in-Some.ensures.step) in
    let does : line_does was.stage did.line ≡ Goes c.take_next.new.stage = (rw c.in-Goes.is at did.does) in
    record {
      same =
          goes_on (text_of c.args.bytes.now) was.stage c.take_next.new.stage (Goes c.take_next.new.stage) was.lines.count was.lines.used was.lines.rest.now
          did.line now.rest.now now.used now.count was.invariant.same did.taken (sym does) refl;
      within =
          stays_within _ was.lines.used was.lines.count was.lines.rest.now did.line now.rest.now now.used now.count was.invariant.within did.taken;
    }

pub returns-in-Ends-clause-prefix : goal.returns-in-Ends-clause-prefix
returns-in-Ends-clause-prefix c =
    let was = c.loop-step in
    let now = c.take_next.new.left in
    let did : IsStep was.lines.rest.now was.lines.used was.lines.count was.stage c.in-Ok.next c.take_next.new.stage now.rest.now now.used now.count =
    (rw c.in-Ok.is at c.in-Some.ensures.step) in
    prefix_is_read c.args.bytes.now _
    (ended (text_of c.args.bytes.now) was.stage c.take_next.new.stage c.in-Building.net c.in-Ok.next was.lines.count was.lines.used was.lines.rest.now did.line
    now.rest.now now.used now.count was.invariant.same did.taken did.does c.in-Ends.is c.in-Building.is)
