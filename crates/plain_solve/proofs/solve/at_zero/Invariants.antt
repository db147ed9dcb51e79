use Rattle.std.proofs.Common.{◌≡◌, ℕ, ◌<◌, ◌*◌, ◌-◌, length, get_or}
use Rattle.plain_solve.proofs.solve.at_zero.Given as goal

abbrev pub invariant-loop-point : goal.invariant-loop-point
invariant-loop-point l = record {
  many : length l.last_arcs.items ≡ l.point;
  each : (p : ℕ) → 0 < p → p < l.point → get_or l.last_arcs.items p 0 ≡ 2 * p - 1;
}
