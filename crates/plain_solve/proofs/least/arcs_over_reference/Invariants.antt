use Rattle.std.proofs.Common.{◌≡◌, ℕ, ◌<◌, ◌*◌, ◌-◌, length, get_or}
use Rattle.plain_solve.proofs.least.arcs_over_reference.Given as goal

abbrev pub invariant-loop-point : goal.invariant-loop-point
invariant-loop-point l = record {
  many : length l.arcs.items ≡ l.point;
  zeroth : get_or l.arcs.items 0 0 ≡ 2 * l.fn.source - 1;
  each : (p : ℕ) → 0 < p → p < l.point → get_or l.arcs.items p 0 ≡ 2 * p - 2;
}
