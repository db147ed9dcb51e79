-- THE END OF A SECTION. Each distance is the weight of a walk from the section's point. Each point has one, and no arc is broken: so the
-- distances, less that of z, are times that keep every arc. They are a schedule, and it has each point exactly its distance after the
-- section's point, whose own distance is 0. So a walk weighs the distance, and a schedule attains it: it is the least bound.
use Rattle.std.proofs.Common.{◌≡◌, ℕ, ◌<◌, ◌≤◌, ℤ, pos, ◌+ℤ◌, ◌-ℤ◌, ◌≤ℤ◌, false, List, map, length, Option, Some, None, sym, ap, ◌∙◌, arith, ⊎_elim}
use Rattle.std.specs.List.{position}
use Rattle.std.proofs.lemmas.Bool.{false≢true, cases_lt}
use Rattle.std.proofs.lemmas.Int.{ints}
use Rattle.std.proofs.lemmas.List.{get_or-map, length-map, get_or_past}
use Rattle.stn_model.specs.declared.ids.Constraint.{Constraint}
use Rattle.stn_model.specs.Arcs.{no_arc, from_at, to_at, bound_at}
use Rattle.stn_model.specs.Net.{Net, arcs_of, point_count}
use Rattle.stn_model.specs.Valid.{IsNetwork}
use Rattle.stn_model.specs.Walks.{IsWalk, weight}
use Rattle.stn_model.specs.Schedules.{time_at, KeepsArcs, Satisfies, IsConsistent, IsLeastBound}
use Rattle.stn_model.proofs.ArcLemmas.{arcs_within}
use Rattle.cert_check.specs.Rows.{Row, distance_to, is_missing, exceeds, is_broken}
use Rattle.cert_check.proofs.Decided.{no_less}
use Rattle.cert_check.proofs.Firsts.{none_passes}

-- some walk has this weight
abbrev pub HasWalk : List Constraint → ℕ → ℕ → ℤ → Type 0
HasWalk arcs i p d = (w : List ℕ) × IsWalk arcs i p w × (weight arcs w ≡ d)

-- the distances of a section
pub record IsRow (net : Net) (i : ℕ) (distances : Row) : Type 0 where
  pub within : i < point_count net
  pub one_each : length distances ≡ point_count net
  pub own : distance_to distances i ≡ Some (pos 0)
  pub walks : (p : ℕ) (d : ℤ) → distance_to distances p ≡ Some d → HasWalk (arcs_of net) i p d

abbrev pub value : Option ℤ → ℤ
value None = pos 0
value (Some d) = d

kept_bound : (x y : Option ℤ) (b : ℤ) → is_missing x ≡ false → is_missing y ≡ false → exceeds x b y ≡ false → value y ≤ℤ (value x +ℤ b)
kept_bound None y b p q h = absurd (false≢true (sym p))
kept_bound (Some d) None b p q h = absurd (false≢true (sym q))
kept_bound (Some d) (Some e) b p q h = no_less (d +ℤ b) e h

-- a point with a distance is one of the row
placed : (distances : Row) (p : ℕ) (d : ℤ) → distance_to distances p ≡ Some d → p < length distances
placed distances p d is =
    ⊎_elim
    (λ (lt : p < length distances). lt)
    (λ (past : length distances ≤ p). let none : distance_to distances p ≡ None = get_or_past distances p None past in absurd (some_none d (sym none ∙ is)))
    (cases_lt p (length distances))
  where
    some_none : (d : ℤ) → ◌≡◌ {A = Option ℤ} None (Some d) → ⊥
    some_none d e = cc

module _ (net : Net) (valid : IsNetwork net) (i : ℕ) (distances : Row) (h : IsRow net i distances)
    (whole : position is_missing distances ≡ None) (kept : position (is_broken distances) (arcs_of net) ≡ None) where
  abbrev times : List ℤ
  times = map (λ x. value x -ℤ value (distance_to distances 0)) distances

  time_of : (p : ℕ) → p < point_count net → time_at times p ≡ value (distance_to distances p) -ℤ value (distance_to distances 0)
  time_of p lt =
      let len = h.one_each in
      let within : p < length distances = omega arith in
      get_or-map (λ x. value x -ℤ value (distance_to distances 0)) distances p None (pos 0) within

  there : (p : ℕ) → p < point_count net → is_missing (distance_to distances p) ≡ false
  there p lt = let len = h.one_each in none_passes is_missing distances None whole p (omega arith)

  keeps : KeepsArcs (arcs_of net) times
  keeps n lt =
      let a = arcs_within net valid n lt in
      let from = time_of (from_at (arcs_of net) n) a.starts in
      let to = time_of (to_at (arcs_of net) n) a.ends in
      let holds =
      kept_bound (distance_to distances (from_at (arcs_of net) n)) (distance_to distances (to_at (arcs_of net) n)) (bound_at (arcs_of net) n)
      (there (from_at (arcs_of net) n) a.starts) (there (to_at (arcs_of net) n) a.ends)
      (none_passes (is_broken distances) (arcs_of net) no_arc kept n lt)
      in
      omega (arith, ints)

  pub satisfied : Satisfies (point_count net) (arcs_of net) times
  satisfied = record {
    one_each = length-map distances (λ x. value x -ℤ value (distance_to distances 0)) ∙ h.one_each;
    first = let zeroth = time_of 0 (omega arith) in omega (arith, ints);
    keeps = keeps;
  }

  pub consistent : IsConsistent (point_count net) (arcs_of net)
  consistent = (times, satisfied)

  pub attained : (p : ℕ) (d : ℤ) → distance_to distances p ≡ Some d → IsLeastBound (point_count net) (arcs_of net) i p d
  attained p d is =
      let w = h.walks p d is in
      let len = h.one_each in
      let in_row = placed distances p d is in
      let there = time_of p (omega arith) in
      let here = time_of i h.within in
      let far : value (distance_to distances p) ≡ d = ap value is in
      let own : value (distance_to distances i) ≡ pos 0 = ap value h.own in
      record { walk = w.0; is_walk = w.1; weighs = w.2; times = times; satisfies = satisfied; attains = omega (arith, ints) }
