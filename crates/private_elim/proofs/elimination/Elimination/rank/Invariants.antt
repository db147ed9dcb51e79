use Rattle.std.proofs.Common.{◌≡◌, ℕ, true, false, take}
use Rattle.std.specs.Prelude.{reverse}
use Rattle.stn_walk.specs.Eliminations.{is_in}
use Rattle.elim_step.specs.Ranked.{key_at}
use Rattle.private_elim.specs.Keyed.{IsKeyed}
use Rattle.private_elim.proofs.elimination.Elimination.rank.Given as goal

abbrev pub invariant-loop-place : goal.invariant-loop-place
invariant-loop-place g l = record {
  size : l.ranking.size ≡ l.initial.ranking.size;
  listed : (p : ℕ) → is_in (take l.place-index l.places) p ≡ true
      → IsKeyed (λ degree number answer. (goal.Fn-dyn g).post (l.picker.key.vtable, l.picker.key.value) (degree, (number, tt)) answer)
      l.self.local (reverse l.self.order) p (key_at l.ranking p);
  others : (p : ℕ) → is_in (take l.place-index l.places) p ≡ false → key_at l.ranking p ≡ key_at l.initial.ranking p;
}
