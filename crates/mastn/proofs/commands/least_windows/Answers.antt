use Rattle.std.proofs.Common.{ap}
use Rattle.mastn.proofs.CommandTexts.{windows_more}
use Rattle.mastn.proofs.commands.least_windows.Goals as goal

pub loop-point-preserved : goal.loop-point-preserved
loop-point-preserved c =
    windows_more c.args.joined.now.network c.loop-point.point c.least_window.result c.loop-point.windows.items c.push.new.self.items
    c.in_ok-push.ensures.items (ap (λ p. p.0) c.least_window.ensures.point) c.least_window.ensures.least c.loop-point.invariant
