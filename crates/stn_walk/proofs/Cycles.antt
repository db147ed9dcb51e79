-- The arcs of a closed walk below 0 have a negative cycle.
--
-- A closed walk below 0 passes no point twice, and then is a negative cycle, or is cut into two closed walks that are not empty. Their
-- weights add to its own, so one of the two is below 0, and it is shorter. So the search ends, with arcs of the walk.
use Rattle.std.proofs.Common.{◌≡◌, ℕ, zero, suc, ◌+◌, ◌≤◌, pos, ◌<ℤ◌, ◌≤ℤ◌, List, [], ◌∷◌, ◌++◌, length, get_or, take, drop, refl, ap, arith, ⊎_elim}
use Rattle.std.specs.List.{All, Contains}
use Rattle.std.proofs.lemmas.Int.{ints, by_lt_z}
use Rattle.std.proofs.lemmas.List.{length-append}
use Rattle.std.proofs.lemmas.List.Elements.{All-take, All-drop, All-append, All-contains_itself, All-contains}
use Rattle.stn_model.specs.declared.ids.Constraint.{Constraint}
use Rattle.stn_model.specs.Schedules.{IsConsistent}
use Rattle.stn_model.specs.Walks.{IsWalk, weight, PassesNoPointTwice, IsNegativeClosed, IsNegativeCycle}
use Rattle.stn_model.proofs.WalkLemmas.{weight_bounds}
use Rattle.stn_walk.specs.ClosedParts.{ClosedPart, FoundCycle}
use Rattle.stn_walk.proofs.Cuts.{simple_or_cut}
use Rattle.stn_walk.proofs.Rotation.{normal_form}

module _ (list : List Constraint) where
  -- a cycle of arcs of a part is one of arcs of the whole
  widened : (ns ms : List ℕ) → All (Contains ns) ms → FoundCycle list ms → FoundCycle list ns
  widened ns ms all f = record {
    cycle = f.cycle;
    negative = f.negative;
    normal = f.normal;
    part = λ k d lt. All-contains (Contains ns) ms (get_or f.cycle k d) all (f.part k d lt);
  }

  of_simple : (ns : List ℕ) → IsNegativeCycle list ns → FoundCycle list ns
  of_simple ns c =
      let r = normal_form list ns c in
      let all = All-contains_itself ns in
      record {
        cycle = drop r.0 ns ++ take r.0 ns;
        negative = r.2;
        normal = r.3;
        part = All-append (Contains ns) (drop r.0 ns) (take r.0 ns) (All-drop (Contains ns) r.0 ns all) (All-take (Contains ns) r.0 ns all);
      }

  part_lengths : (s : ℕ) (ns : List ℕ) (c : ClosedPart list s s ns) → length ns ≡ length c.part + length (c.front ++ c.back)
  part_lengths s ns c =
      let a : length ns ≡ length (c.front ++ c.part ++ c.back) = ap (λ (xs : List ℕ). length xs) c.whole in
      let b : length (c.front ++ c.part ++ c.back) ≡ length (c.front ++ c.part) + length c.back = length-append (c.front ++ c.part) c.back in
      let d : length (c.front ++ c.part) ≡ length c.front + length c.part = length-append c.front c.part in
      let e : length (c.front ++ c.back) ≡ length c.front + length c.back = length-append c.front c.back in
      omega arith

  found : (fuel s : ℕ) (ns : List ℕ) → length ns ≤ fuel → IsWalk list s s ns → weight list ns <ℤ pos 0 → FoundCycle list ns
  found zero s [] le w low = absurd (omega (arith, ints))
  found zero s (n ∷ ns) le w low = absurd (omega arith)
  found (suc fuel) s ns le w low = ⊎_elim
      (λ (simple : PassesNoPointTwice list s s ns). of_simple ns (record { start = s; walk = w; simple = simple.ends_meet refl; negative = low }))
      (λ (c : ClosedPart list s s ns).
      let lengths = part_lengths s ns c in
      let part_goes = c.part_goes in
      let rest_goes = c.rest_goes in
      let sum = c.weights in
      by_lt_z (weight list c.part) (pos 0)
      (λ (below : weight list c.part <ℤ pos 0). widened ns c.part c.part_of (found fuel c.at c.part (omega arith) c.closed below))
      (λ (light : pos 0 ≤ℤ weight list c.part). widened ns (c.front ++ c.back) c.rest_of (found fuel s (c.front ++ c.back) (omega arith) c.rest (omega (arith, ints)))))
      (simple_or_cut list s s ns w)

  pub found_cycle : (ns : List ℕ) → IsNegativeClosed list ns → FoundCycle list ns
  found_cycle ns c = found (length ns) c.start ns (omega arith) c.walk c.negative

  -- so no schedule keeps the arcs, which the closed walk shows itself
  pub no_schedule_closed : (points : ℕ) (ns : List ℕ) → IsNegativeClosed list ns → IsConsistent points list → ⊥
  no_schedule_closed points ns c s =
      let b = weight_bounds list s.0 s.1.keeps c.start c.start ns c.walk in
      let low = c.negative in
      absurd (omega (arith, ints))
