use Rattle.std.proofs.Common.{◌≡◌, ℕ, ◌<◌, Some, None}
use Rattle.std.specs.Prelude.{slice_get}
use Rattle.private_elim.specs.Backs.{BoundsView, bound_between}
use Rattle.conflict_cycle.proofs.parts.Parts.private_bound.Given as goal

abbrev pub invariant-loop-bounds : goal.invariant-loop-bounds
invariant-loop-bounds l =
    (a : ℕ) (v : BoundsView) → a < l.bounds-index → slice_get l.fn.self.bounds a ≡ Some v → bound_between v l.fn.i.0 l.fn.j.0 ≡ None
