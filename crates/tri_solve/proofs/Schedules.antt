-- Where each point has a distance, the distances less that of z are a schedule that attains every least bound from the source.
use Rattle.std.proofs.Common.{◌≡◌, ◌≢◌, ℕ, ◌<◌, Bool, true, List, map, length, Option, Some, None, ap, sym, ◌∙◌, arith, subst, ⊎_elim}
use Rattle.std.specs.Prelude.{ℤ, pos, ◌+ℤ◌, ◌-ℤ◌, ◌≤ℤ◌, Contains}
use Rattle.std.specs.Option.{unwrap_or}
use Rattle.std.specs.List.{range_with_len}
use Rattle.std.proofs.lemmas.Bool.{cases_eq}
use Rattle.std.proofs.lemmas.Int.{ints}
use Rattle.std.proofs.lemmas.List.FromFn.{length-map-range_with_len, get_or-map-range_with_len}
use Rattle.stn_model.specs.declared.ids.Constraint.{Constraint}
use Rattle.stn_model.specs.Arcs.{arc_at, from_at, to_at, bound_at}
use Rattle.stn_model.specs.ArcWalks.{arcs_weight}
use Rattle.stn_model.specs.Schedules.{Satisfies, IsLeastBound, time_at}
use Rattle.stn_model.proofs.Bridges.{arc_contained, numbers_of, arcs_weight-map}
use Rattle.stn_walk.specs.Distances.{HasEndsBelow}
use Rattle.stn_walk.proofs.Exits.{every}
use Rattle.stn_walk.proofs.Finals.{IsLower}
use Rattle.tri_solve.specs.Passes.{distance}
use Rattle.tri_solve.specs.Chordal.{IsChordal, AreLeast}
use Rattle.tri_solve.proofs.Numbers.{is_there}
use Rattle.tri_solve.proofs.TwoPasses.{dist_keeps, arc_keeps, source_lower, source_zero, dist_walk}

abbrev number : Option ℤ → ℤ
number o = unwrap_or o (pos 0)

number_lower : (x : ℤ) (o : Option ℤ) → IsLower x o → IsLower (number o) o
number_lower x None h = absurd h
number_lower x (Some d) h = omega (arith, ints)

lower_number : (x : ℤ) (o : Option ℤ) → IsLower x o → number o ≤ℤ x
lower_number x None h = absurd h
lower_number x (Some d) h = h

module _ (arcs : List Constraint) (joined : ℕ → ℕ → Bool) (bound : ℕ → ℕ → ℤ) (least : AreLeast arcs joined bound) (order : List ℕ) (chordal : IsChordal joined order)
    (zero : (p : ℕ) → Contains order p → p ≢ 0 → joined p 0 ≡ true) (i : ℕ) (here : Contains order i) where
  abbrev dist : ℕ → Option ℤ
  dist = distance joined bound order i

  -- z is reached from the source, and each point from z
  zero_lower : (x : ℤ) × IsLower x (dist 0)
  zero_lower =
      ⊎_elim
      (λ (e : i ≡ 0).
      let low = subst (λ (k : ℕ). IsLower (pos 0) (dist k)) e (source_lower arcs joined bound least order chordal i here) in
      let there : (x : ℤ) × IsLower x (dist 0) = (pos 0, low) in
      there)
      (λ (ne : i ≢ 0).
      let low = source_lower arcs joined bound least order chordal i here in
      let there : (x : ℤ) × IsLower x (dist 0) = (pos 0 +ℤ bound i 0, dist_keeps arcs joined bound least order chordal i here i 0 (pos 0) (zero i here ne) low) in
      there)
      (cases_eq i 0)

  each_lower : (p : ℕ) → Contains order p → (x : ℤ) × IsLower x (dist p)
  each_lower p c =
      ⊎_elim
      (λ (e : p ≡ 0).
      let low = subst (λ (k : ℕ). IsLower zero_lower.0 (dist k)) (sym e) zero_lower.1 in
      let there : (x : ℤ) × IsLower x (dist p) = (zero_lower.0, low) in
      there)
      (λ (ne : p ≢ 0).
      let low = dist_keeps arcs joined bound least order chordal i here 0 p zero_lower.0 (least.turned p 0 (zero p c ne)) zero_lower.1 in
      let there : (x : ℤ) × IsLower x (dist p) = (zero_lower.0 +ℤ bound 0 p, low) in
      there)
      (cases_eq p 0)

  pub each_there : (p : ℕ) → Contains order p → (d : ℤ) × (dist p ≡ Some d)
  each_there p c = let there = is_there (each_lower p c).0 (dist p) (each_lower p c).1 in (there.0, there.1)

  module _ (points : ℕ) (below : HasEndsBelow points arcs) (all : (p : ℕ) → p < points → Contains order p) where
    pub satisfies : i < points → (times : List ℤ) → length times ≡ points
        → ((p : ℕ) → p < points → time_at times p ≡ number (dist p) -ℤ number (dist 0)) → Satisfies points arcs times
    satisfies lt times len are = record {
      one_each = len;
      first = (let e = are 0 (omega arith) in omega (arith, ints));
      keeps = λ n within.
          let ends = below (arc_at arcs n) (arc_contained arcs n within) in
          let some = each_lower (from_at arcs n) (all (from_at arcs n) ends.0) in
          let low = number_lower some.0 (dist (from_at arcs n)) some.1 in
          let next = arc_keeps arcs joined bound least order chordal i here (arc_at arcs n) (number (dist (from_at arcs n))) (arc_contained arcs n within) low in
          let high = lower_number (number (dist (from_at arcs n)) +ℤ bound_at arcs n) (dist (to_at arcs n)) next in
          let u = are (from_at arcs n) ends.0 in
          let v = are (to_at arcs n) ends.1 in
          omega (arith, ints);
    }

    abbrev times_of : List ℤ
    times_of = map (λ p. number (dist p) -ℤ number (dist 0)) (range_with_len 0 points)

    time_of : (p : ℕ) → p < points → time_at times_of p ≡ number (dist p) -ℤ number (dist 0)
    time_of p lt = get_or-map-range_with_len (λ p. number (dist p) -ℤ number (dist 0)) 0 points p p (pos 0) lt (omega arith)

    pub bounds : (p : ℕ) → i < points → p < points → IsLeastBound points arcs i p (number (dist p))
    bounds p lt within =
        let there = each_there p (all p within) in
        let w = dist_walk arcs joined bound least order chordal i here p there.0 there.1 in
        let ns = numbers_of arcs every i p w.0 w.1 in
        let is : number (dist p) ≡ there.0 = ap (λ o. unwrap_or o (pos 0)) there.1 in
        let none : number (dist i) ≡ pos 0 = ap (λ o. unwrap_or o (pos 0)) (source_zero arcs joined bound least order chordal i here) in
        let u = time_of i lt in
        let v = time_of p within in
        record {
          walk = ns.0;
          is_walk = ns.1;
          weighs = sym (arcs_weight-map arcs ns.0) ∙ ap arcs_weight ns.2 ∙ w.2 ∙ sym is;
          times = times_of;
          satisfies = satisfies lt times_of (length-map-range_with_len (λ p. number (dist p) -ℤ number (dist 0)) 0 points) time_of;
          attains = omega (arith, ints);
        }
