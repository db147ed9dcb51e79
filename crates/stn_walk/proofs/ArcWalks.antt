-- Walks as lists of arcs: concatenation, what a schedule says of them, and the cycles that their arcs have.
use Rattle.std.proofs.Common.{◌≡◌, ℕ, ◌<◌, Bool, true, ℤ, pos, ◌+ℤ◌, ◌-ℤ◌, ◌≤ℤ◌, ◌<ℤ◌, List, [], ◌∷◌, ◌++◌, map, length, get_or, sym, ap, subst, ◌∙◌, arith}
use Rattle.std.specs.List.{Contains}
use Rattle.std.proofs.lemmas.Int.{ints}
use Rattle.std.proofs.lemmas.List.{length-map, get_or-map}
use Rattle.stn_model.specs.declared.ids.Constraint.{Constraint}
use Rattle.stn_model.specs.Arcs.{arc_at}
use Rattle.stn_model.specs.Schedules.{KeepsArcs, time_at}
use Rattle.stn_model.specs.Walks.{weight}
use Rattle.stn_model.specs.ArcWalks.{GoesOn, IsArcWalk, arcs_weight}
use Rattle.stn_model.proofs.Bridges.{numbers_of, arcs_weight-map}
use Rattle.stn_model.proofs.WalkLemmas.{weight_bounds}
use Rattle.stn_walk.specs.ClosedParts.{FoundArcCycle}
use Rattle.stn_walk.proofs.Cycles.{found_cycle}

pub arcs_weight-append : (v w : List Constraint) → arcs_weight (v ++ w) ≡ arcs_weight v +ℤ arcs_weight w
arcs_weight-append [] w = omega (arith, ints)
arcs_weight-append (a ∷ v) w = omega (arith, ints, arcs_weight-append v w)

module _ (inner : ℕ → Bool) (list : List Constraint) where
  -- one walk after another
  pub GoesOn-append : (i j k : ℕ) (v w : List Constraint) → GoesOn inner list i j v → GoesOn inner list j k w → GoesOn inner list i k (v ++ w)
  GoesOn-append i j k [] w g h = subst (λ (x : ℕ). GoesOn inner list x k w) (sym g) h
  GoesOn-append i j k (a ∷ v) w g h = (g.0, g.1, g.2, GoesOn-append a.to.0 j k v w g.3 h)

  -- a walk is one over each list that has its arcs
  pub GoesOn-wider : (wider : List Constraint) → ((a : Constraint) → Contains list a → Contains wider a)
      → (i j : ℕ) (w : List Constraint) → GoesOn inner list i j w → GoesOn inner wider i j w
  GoesOn-wider wider more i j [] g = g
  GoesOn-wider wider more i j (a ∷ w) g = (g.0, more a g.1, g.2, GoesOn-wider wider more a.to.0 j w g.3)

module _ (list : List Constraint) where
  -- in every schedule that keeps the arcs it weighs at least what lies between the times of its ends
  pub arcs_weight_bounds : (times : List ℤ) → KeepsArcs list times → (i j : ℕ) (w : List Constraint) → IsArcWalk list i j w
      → (time_at times j -ℤ time_at times i) ≤ℤ arcs_weight w
  arcs_weight_bounds times keeps i j w g =
      let ns = numbers_of list (λ _. true) i j w g in
      let bound = weight_bounds list times keeps i j ns.0 ns.1 in
      let sum : arcs_weight w ≡ weight list ns.0 = sym (ap arcs_weight ns.2) ∙ arcs_weight-map list ns.0 in
      omega (arith, ints)

  -- the arcs of a closed walk below 0 have a negative cycle
  pub arcs_cycle : (i : ℕ) (w : List Constraint) → IsArcWalk list i i w → arcs_weight w <ℤ pos 0 → FoundArcCycle list w
  arcs_cycle i w g low =
      let ns = numbers_of list (λ _. true) i i w g in
      let sum : arcs_weight w ≡ weight list ns.0 = sym (ap arcs_weight ns.2) ∙ arcs_weight-map list ns.0 in
      let f = found_cycle list ns.0 (record { start = i; walk = ns.1; negative = omega (arith, ints) }) in
      record { cycle = f.cycle; negative = f.negative; normal = f.normal; part = λ k d lt. arc_of ns.0 ns.2 (get_or f.cycle k d) (f.part k d lt) } where
        arc_of : (ns : List ℕ) → map (arc_at list) ns ≡ w → (n : ℕ) → Contains ns n → Contains w (arc_at list n)
        arc_of ns is n h =
            let len : length (map (arc_at list) ns) ≡ length ns = length-map ns (arc_at list) in
            let lt = h.1 in
            let within : h.0 < length (map (arc_at list) ns) = omega arith in
            let at : get_or (map (arc_at list) ns) h.0 (arc_at list n) ≡ arc_at list n = get_or-map (arc_at list) ns h.0 n (arc_at list n) lt ∙ ap (arc_at list) h.2 in
            subst (λ (xs : List Constraint). Contains xs (arc_at list n)) is (h.0, within, at)
