-- The line that was cut is the next one.
use Rattle.net_text.proofs.Scanned.{cut_from}
use Rattle.net_text.proofs.lines.Lines.next_fields.Goals as goal

pub returns-clause-cut : goal.returns-clause-cut
returns-clause-cut c =
    let was = c.args.self.now in cut_from was.rest.now c.in_ok-scan.scan.rest.now was.used was.count _ c.in_ok-scan.ensures.scanned
