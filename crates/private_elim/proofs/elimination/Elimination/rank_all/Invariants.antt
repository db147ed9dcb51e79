use Rattle.std.proofs.Common.{◌≡◌, ℕ, ◌<◌, ◌≤◌, None, length}
use Rattle.std.specs.Prelude.{reverse}
use Rattle.elim_step.specs.Ranked.{key_at}
use Rattle.private_elim.specs.Keyed.{IsKeyed}
use Rattle.private_elim.proofs.elimination.Elimination.rank_all.Given as goal

abbrev pub invariant-loop-place : goal.invariant-loop-place
invariant-loop-place g l = record {
  size : l.ranking.size ≡ length l.self.local.points;
  keyed : (p : ℕ) → p < l.place
      → IsKeyed (λ degree number answer. (goal.Fn-dyn g).post (l.picker.key.vtable, l.picker.key.value) (degree, (number, tt)) answer)
      l.self.local (reverse l.self.order) p (key_at l.ranking p);
  none : (p : ℕ) → l.place ≤ p → key_at l.ranking p ≡ None;
}
