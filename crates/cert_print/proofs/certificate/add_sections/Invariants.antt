use Rattle.plain_solve.specs.Served.{Serves}
use Rattle.cert_print.specs.Leads.{WritesSections}
use Rattle.cert_print.proofs.certificate.add_sections.Given as goal

abbrev pub invariant-loop-number : goal.invariant-loop-number
invariant-loop-number l = record { serves : Serves l.net l.sources; writes : WritesSections l.net 0 l.number l.fn.out.items l.out.items }
