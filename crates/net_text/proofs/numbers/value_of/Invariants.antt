-- The bytes so far are digits, and their value.
use Rattle.net_text.proofs.Digits.{IsRead}
use Rattle.net_text.proofs.numbers.value_of.Given as goal

abbrev pub invariant-loop-byte : goal.invariant-loop-byte
invariant-loop-byte l = IsRead l.bytes l.byte-index l.value
