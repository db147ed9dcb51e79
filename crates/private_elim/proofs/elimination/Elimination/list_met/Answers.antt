use Rattle.std.proofs.Common.{◌≡◌, ◌≢◌, Bool, true, false, ◌&&◌, not, ap, sym, refl, ◌∙◌, map, arith}
use Rattle.std.specs.Prelude.{reverse, ◌==◌}
use Rattle.std.proofs.lemmas.Bool.Decides.{nat_tests}
use Rattle.stn_model.specs.declared.ids.PointId.{PointId}
use Rattle.stn_walk.specs.Eliminations.{is_in}
use Rattle.elim_step.specs.Eliminated.{point_at}
use Rattle.elim_step.specs.JoinedPlaces.{is_joined}
use Rattle.private_elim.proofs.taking.Takes.{facts}
use Rattle.private_elim.proofs.elimination.Elimination.list_met.Goals as goal

pub returns-clause-facts : goal.returns-clause-facts
returns-clause-facts g c = rw (← c.self.view_is) (facts _ _ _ _ _ c.self.invariant.taken)

pub returns-clause-within : goal.returns-clause-within
returns-clause-within g c p here =
    let low = c.in_ok-neighbours.ensures.within p here in
    rw (← c.self.view_is) (omega (arith, low, c.self.invariant.joins_size))

pub returns-in_err-neighbours-clause-facts : goal.returns-in_err-neighbours-clause-facts
returns-in_err-neighbours-clause-facts g c = rw (← c.self.view_is) (facts _ _ _ _ _ c.self.invariant.taken)

-- joined places are different ones
met_test : (out j x same : Bool) → (same ≡ true → j ≡ false) → (same ≡ false → j ≡ x) → (out && j) ≡ (out && not same && x)
met_test true j x true apart is = apart refl
met_test true j x false apart is = is refl
met_test false j x same apart is = refl

pub returns-clause-each : goal.returns-clause-each
returns-clause-each g c p low =
    let e = c.self.inside in
    let v = e.local in
    let h = c.self.invariant in
    let k = c.args.place in
    let within = (rw (← c.self.view_is) at c.requires) in
    let lp = (rw (← c.self.view_is) at low) in
    rw (← c.self.view_is)
    ((rw c.as_slice.ensures.value at c.in_ok-neighbours.ensures.each) p ∙ ap (λ b. b && is_joined e.joins k p) (h.taken.cells.remaining p lp)
    ∙ met_test (not (is_in (reverse (map (λ (p : PointId). p.0) e.order.items)) (point_at v.points p))) (is_joined e.joins k p) _ (k == p)
    (λ t. let same : k ≡ p = grind (arith, nat_tests) in ap (is_joined e.joins k) (sym same) ∙ h.taken.alone k)
    (λ t. let apart : k ≢ p = grind (arith, nat_tests) in h.taken.joins k p within lp apart))
