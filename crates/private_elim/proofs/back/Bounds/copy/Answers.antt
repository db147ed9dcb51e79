use Rattle.std.proofs.Common.{◌<◌, ◌≤◌, ℕ, List, ◌∙◌, sym, ap, length, subst}
use Rattle.std.specs.List.{AllPairs}
use Rattle.stn_model.specs.Limits.{most_points}
use Rattle.private_elim.proofs.sweep.Bounds.{view_same}
use Rattle.private_elim.proofs.sweep.Throughs.{same_through}
use Rattle.private_elim.proofs.back.Bounds.copy.Goals as goal

pub invariant_of-result : goal.invariant_of-result
invariant_of-result g c =
    let b = c.self.inside in
    let points = c.in_ok-points.ensures.items ∙ c.as_slice.ensures.value in
    let private = c.in_ok-private.ensures.items ∙ c.as_slice-2.ensures.value in (
      c.in_ok-finals.ensures.places ∙ c.self.invariant.0 ∙ sym (ap length points),
      ap length private ∙ c.self.invariant.1 ∙ sym (ap length points),
      subst (AllPairs (λ p q. p < q)) (sym points) c.self.invariant.2,
      subst (λ (xs : List ℕ). length xs ≤ most_points) (sym points) c.self.invariant.3,
      same_through (g.R.Rows.at b.finals) (g.R.Rows.at c.in_ok-finals.finals) b.points.items c.in_ok-points.points.items b.private.items
          c.in_ok-private.private.items (sym points) (sym private) (λ p q. sym (c.in_ok-finals.ensures.cells p q)) c.self.invariant.4,
    )

pub returns : goal.returns
returns g c =
    let b = c.self.inside in
    let points = c.in_ok-points.ensures.items ∙ c.as_slice.ensures.value in
    let private = c.in_ok-private.ensures.items ∙ c.as_slice-2.ensures.value in
    rw (← c.self.view_is) (view_same c.in_ok-points.points.items b.points.items c.in_ok-private.private.items b.private.items
    (g.R.Rows.at c.in_ok-finals.finals) (g.R.Rows.at b.finals) points private c.in_ok-finals.ensures.cells)
