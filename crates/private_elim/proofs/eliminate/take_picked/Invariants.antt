use Rattle.std.proofs.Common.{◌≡◌, ◌-◌, length}
use Rattle.std.specs.Prelude.{reverse}
use Rattle.stn_model.specs.Limits.{most_points}
use Rattle.elim_step.specs.Ranked.{key_at}
use Rattle.private_elim.specs.Keyed.{AreKeyed}
use Rattle.private_elim.specs.Picked.{ArePicked}
use Rattle.private_elim.specs.Taken.{HasTaken}
use Rattle.private_elim.proofs.eliminate.take_picked.Given as goal

abbrev pub invariant-taking : goal.invariant-taking
invariant-taking g l = record {
  facts : HasTaken l.elimination;
  local : l.elimination.local ≡ l.fn.elimination.local;
  picked : ArePicked (λ degree number answer. (goal.Fn-dyn g).post (l.picker.key.vtable, l.picker.key.value) (degree, (number, tt)) answer)
      l.elimination.local (reverse l.elimination.order);
  size : l.ranking.size ≡ length l.elimination.local.points;
  keyed : AreKeyed (λ degree number answer. (goal.Fn-dyn g).post (l.picker.key.vtable, l.picker.key.value) (degree, (number, tt)) answer)
      l.elimination.local (reverse l.elimination.order) (key_at l.ranking);
}

abbrev pub decreases-taking : goal.decreases-taking
decreases-taking g l = most_points - length l.elimination.order
