use Rattle.std.proofs.Common.{◌≡◌, length, ap, ◌∙◌, arith}
use Rattle.private_elim.specs.SummaryRows.{rows_below}
use Rattle.private_elim.proofs.summarise.entries_of.Goals as goal

-- all rows
pub returns-clause-entries : goal.returns-clause-entries
returns-clause-entries c =
    let last : c.loop-i.i ≡ length c.args.elimination.now.local.points =
    omega (arith, c.loop-i-test.false, c.loop-i.auto.i-end, c.size-i-end.ensures.value) in
    c.loop-i.invariant ∙ ap (rows_below c.args.elimination.now) last
