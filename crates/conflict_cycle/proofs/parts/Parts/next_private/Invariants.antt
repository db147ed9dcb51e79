use Rattle.std.specs.Option.{option_map}
use Rattle.conflict_cycle.specs.Nexts.{IsNext}
use Rattle.conflict_cycle.proofs.Nexts.{HasPrivateBelow}
use Rattle.conflict_cycle.proofs.parts.Parts.next_private.Given as goal

abbrev pub invariant-loop-bounds : goal.invariant-loop-bounds
invariant-loop-bounds l =
    IsNext (HasPrivateBelow l.fn.self.bounds l.bounds-index l.fn.i.0) (option_map (λ p. p.0) l.fn.after) (option_map (λ p. p.0) l.least)
