use Rattle.std.proofs.Common.{◌≡◌, ◌++◌, take}
use Rattle.cert_print.specs.Texts.{numbers_text}
use Rattle.cert_print.proofs.certificate.add_numbers.Given as goal

abbrev pub invariant-loop-number : goal.invariant-loop-number
invariant-loop-number l = l.out.items ≡ l.fn.out.items ++ numbers_text (take l.number-index l.numbers)
