-- The line ends with this field.
use Rattle.std.proofs.Common.{refl, ◌+◌, arith}
use Rattle.std.proofs.lemmas.List.{take_rest}
use Rattle.net_text.proofs.Scanned.{last_field}
use Rattle.net_text.proofs.scan.scan_line.Goals as goal

pub returns-then-after-eq10-clause-scanned : goal.returns-then-after-eq10-clause-scanned
returns-then-after-eq10-clause-scanned c =
    let was = c.loop-count in
    let end = c.plain_front-end.result in
    last_field c.args.bytes.now was.rest.now _ was.room was.count end _ (omega arith) was.invariant.so_far (omega arith) (omega arith)
    c.plain_front-end.ensures.plain refl c.if-after-eq10.true (take_rest was.rest.now (end + 1))
