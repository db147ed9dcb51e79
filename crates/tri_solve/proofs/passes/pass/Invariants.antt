use Rattle.std.proofs.Common.{◌-◌, length, drop}
use Rattle.tri_solve.specs.Layouts.{turned}
use Rattle.tri_solve.specs.Turns.{IsPassing}
use Rattle.tri_solve.proofs.passes.pass.Given as goal

abbrev pub invariant-loop-turn : goal.invariant-loop-turn
invariant-loop-turn l = record { passing : IsPassing l.bounds l.up l.initial.labels (drop (length l.bounds.order - l.turn) (turned l.up l.bounds.order)) l.labels }
