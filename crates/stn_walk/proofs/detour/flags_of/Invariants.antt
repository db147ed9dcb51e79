use Rattle.std.proofs.Common.{take}
use Rattle.stn_walk.specs.Detours.{AreFlagsOf}
use Rattle.stn_walk.proofs.detour.flags_of.Given as goal

abbrev pub invariant-loop-n : goal.invariant-loop-n
invariant-loop-n l = AreFlagsOf l.count (take l.n-index l.listed) l.flags.items
