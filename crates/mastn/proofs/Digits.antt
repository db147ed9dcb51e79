-- The digit of 0.
use Rattle.std.proofs.Common.{◌≡◌, codes, refl}
use Rattle.std.specs.Fmt.{decimal, digits}

pub zero_digit : decimal 0 ≡ codes "0"
unfolding digits
zero_digit = refl
