-- Skipped lines are passed over.
use Rattle.std.proofs.Common.{arith}
use Rattle.net_text.proofs.Progress.{stays_within}
use Rattle.net_text.proofs.rest.rest_is_blank.Goals as goal

pub overflow_add-result : goal.overflow_add-result
overflow_add-result c =
    let within =
    stays_within _ c.loop-line.lines.used c.loop-line.lines.count c.loop-line.lines.rest.now c.in-Some.line.now
    c.next_line.new.self.rest.now c.next_line.new.self.used c.next_line.new.self.count c.loop-line.invariant.within c.in-Some.ensures.taken
    in
    omega (arith, within, c.next_line.new.self.few)
