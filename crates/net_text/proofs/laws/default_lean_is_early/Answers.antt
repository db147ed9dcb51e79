-- Both lines compute to the same.
use Rattle.std.proofs.Common.{refl}
use Rattle.net_text.proofs.laws.default_lean_is_early.Goals as goal

pub returns : goal.returns
returns c v net name = refl
