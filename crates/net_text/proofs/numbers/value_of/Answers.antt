-- A digit more.
use Rattle.std.proofs.Common.{◌≡◌, true, get_or, rules, arith}
use Rattle.std.specs.Char.{is_ascii_digit}
use Rattle.net_text.proofs.Digits.{one_more}
use Rattle.net_text.proofs.numbers.value_of.Goals as goal

pub loop-byte-preserved : goal.loop-byte-preserved
loop-byte-preserved c =
    let here : is_ascii_digit (get_or c.args.bytes.now c.loop-byte.byte-index 0) ≡ true = search rules in
    rw c.from.ensures (one_more c.args.bytes.now c.loop-byte.byte-index c.loop-byte.value (omega arith) c.requires here c.loop-byte.invariant)
