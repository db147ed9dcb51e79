-- What labels at rest say on arcs turned round: least walks from the source, and one schedule that attains them all.
use Rattle.std.proofs.Common.{◌≡◌, ◌≢◌, ℕ, zero, suc, ◌+◌, ◌-◌, ◌*◌, ◌<◌, ◌≤◌, ℤ, pos, neg_ℤ, ◌+ℤ◌, ◌-ℤ◌, ◌≤ℤ◌, ◌<ℤ◌, List, [], ◌∷◌, ◌++◌, map, length, get_or, refl, sym, ap, subst, ◌∙◌, ⊎_elim, arith}
use Rattle.std.proofs.lemmas.Int.{ints}
use Rattle.std.proofs.lemmas.Bool.{cases_eq}
use Rattle.std.proofs.lemmas.List.{length-map}
use Rattle.std.proofs.lemmas.List as lists
use Rattle.std.proofs.Math.ListN.{get_or-map}
use Rattle.stn_model.specs.declared.ids.Constraint.{Constraint}
use Rattle.stn_model.specs.Net.{Net, arcs_of, point_count}
use Rattle.stn_model.specs.Valid.{IsArcWithin}
use Rattle.stn_model.specs.Arcs.{arc_at, from_at, to_at, bound_at, no_arc}
use Rattle.stn_model.specs.Schedules.{KeepsArcs, Satisfies, IsConsistent, IsLeastBound, time_at}
use Rattle.stn_model.specs.Walks.{IsWalk, weight, IsNegativeClosed}
use Rattle.stn_model.proofs.WalkLemmas.{IsWalk-append, weight-append, weight_bounds}
use Rattle.stn_model.proofs.ArcLemmas.{arc_even, arc_odd, lower_arc, upper_arc}
use Rattle.stn_model.proofs.NetLemmas.{length-arcs_of}
use Rattle.plain_solve.specs.declared.graph.Graph.{Graph}
use Rattle.plain_solve.specs.declared.labels.Labels.{Labels}
use Rattle.plain_solve.specs.Graphs.{IsGraph, IsTurned, exchanged}
use Rattle.plain_solve.specs.LabelFacts.{IsForcing, IsForced, IsOver}
use Rattle.plain_solve.specs.OrderFacts.{parent}
use Rattle.plain_solve.proofs.GraphLemmas.{arc_turned}
use Rattle.plain_solve.proofs.Trees.{IsBranch, branch}

module _ (net : Net) (source : ℕ) (g : Graph) (valid : IsGraph g) (o : IsTurned net source g) where
  pub starts_at : (n : ℕ) → from_at (arcs_of net) n ≡ to_at g.arcs.items n
  starts_at n = sym (ap (λ a. a.to.0) (arc_turned net source g o n))

  pub ends_at : (n : ℕ) → to_at (arcs_of net) n ≡ from_at g.arcs.items n
  ends_at n = sym (ap (λ a. a.from.0) (arc_turned net source g o n))

  pub bounds_at : (n : ℕ) → bound_at (arcs_of net) n ≡ bound_at g.arcs.items n
  bounds_at n = sym (ap (λ a. a.bound) (arc_turned net source g o n))

  pub as_many : length g.arcs.items ≡ length (arcs_of net)
  as_many = ap (λ xs. length xs) o.arcs ∙ length-map (arcs_of net) exchanged

  -- a schedule of the network, with the sign changed, keeps the arcs turned round
  kept_turned : (other : List ℤ) → KeepsArcs (arcs_of net) other → KeepsArcs g.arcs.items (map neg_ℤ other)
  kept_turned other keeps n lt =
      let many = as_many in
      let k = keeps n (omega arith) in
      let f = ap (time_at other) (starts_at n) in
      let t = ap (time_at other) (ends_at n) in
      let b = bounds_at n in
      let x = get_or-map neg_ℤ other (to_at g.arcs.items n) (pos 0) in
      let y = get_or-map neg_ℤ other (from_at g.arcs.items n) (pos 0) in
      omega (arith, ints)

  -- times lie from 0 to the horizon
  not_late : (other : List ℤ) → Satisfies (point_count net) (arcs_of net) other → (p : ℕ) → p < g.points → time_at other p ≤ℤ net.horizon
  not_late other sat p within =
      let points = o.points in
      let top = o.top in
      let high = valid.top_low in
      let first = sat.first in
      ⊎_elim
      (λ (e : p ≡ 0). let t = ap (time_at other) e in omega (arith, ints))
      (λ (away : p ≢ 0).
      let is : arc_at (arcs_of net) (2 * p - 2) ≡ upper_arc net.horizon p = arc_even net (2 * p - 2) (omega arith) (omega arith) ∙ ap (upper_arc net.horizon) (omega arith) in
      let k = sat.keeps (2 * p - 2) (omega (arith, length-arcs_of net)) in
      let f = ap (λ a. time_at other a.from.0) is in
      let t = ap (λ a. time_at other a.to.0) is in
      let b = ap (λ a. a.bound) is in
      omega (arith, ints))
      (cases_eq p 0)

  not_early : (other : List ℤ) → Satisfies (point_count net) (arcs_of net) other → (p : ℕ) → p < g.points → pos 0 ≤ℤ time_at other p
  not_early other sat p within =
      let points = o.points in
      let first = sat.first in
      ⊎_elim
      (λ (e : p ≡ 0). let t = ap (time_at other) e in omega (arith, ints))
      (λ (away : p ≢ 0).
      let is : arc_at (arcs_of net) (2 * p - 1) ≡ lower_arc p = arc_odd net (2 * p - 1) (omega arith) (omega arith) ∙ ap lower_arc (omega arith) in
      let k = sat.keeps (2 * p - 1) (omega (arith, length-arcs_of net)) in
      let f = ap (λ a. time_at other a.from.0) is in
      let t = ap (λ a. time_at other a.to.0) is in
      let b = ap (λ a. a.bound) is in
      omega (arith, ints))
      (cases_eq p 0)

  -- an arc that asks for too high a label excludes schedules
  pub over_excludes : (s : Labels) → IsForced g s → (n : ℕ) → IsOver g s n → IsConsistent (point_count net) (arcs_of net) → ⊥
  over_excludes s h n x c =
      let other = c.0 in
      let kept = kept_turned other c.1.keeps in
      let w : IsArcWithin g.points (arc_at g.arcs.items n) = valid.arcs n no_arc x.within in
      let k = kept n x.within in
      let b = h.below (map neg_ℤ other) kept (to_at g.arcs.items n) w.ends in
      let r = get_or-map neg_ℤ other g.root (pos 0) in
      let f = get_or-map neg_ℤ other (from_at g.arcs.items n) (pos 0) in
      let late = not_late other c.1 g.root valid.root_in in
      let early = not_early other c.1 (from_at g.arcs.items n) w.starts in
      let top = o.top in
      ⊎_elim
      (λ (z : (from_at g.arcs.items n ≡ g.root) × (pos 0 <ℤ (time_at s.times.items (to_at g.arcs.items n) -ℤ bound_at g.arcs.items n))).
      let more = z.1 in let same = ap (time_at (map neg_ℤ other)) z.0 in absurd (omega (arith, ints)))
      (λ (z : (from_at g.arcs.items n ≢ g.root) × (g.top <ℤ (time_at s.times.items (to_at g.arcs.items n) -ℤ bound_at g.arcs.items n))).
      let more = z.1 in absurd (omega (arith, ints)))
      x.over

  -- a negative closed walk excludes schedules
  pub closes_excludes : (walk : List ℕ) → IsNegativeClosed g.arcs.items walk → IsConsistent (point_count net) (arcs_of net) → ⊥
  closes_excludes walk closed c =
      let b = weight_bounds g.arcs.items (map neg_ℤ c.0) (kept_turned c.0 c.1.keeps) closed.start closed.start walk closed.walk in
      let n = closed.negative in
      absurd (omega (arith, ints))

-- labels at rest
module _ (net : Net) (source : ℕ) (g : Graph) (valid : IsGraph g) (o : IsTurned net source g)
    (times : List ℤ) (last : List ℕ) (raises : ℕ) (h : IsForcing g times last raises) (keeps : KeepsArcs g.arcs.items times) where
  at_rest : (p : ℕ) → p ≢ g.root → p < g.points → IsBranch g times last h.stamps p
  at_rest = branch g times last raises h valid keeps

  -- along last arcs, by induction on stamps
  least_walk : (k p : ℕ) → get_or h.stamps p 0 < k → p < g.points
      → (walk : List ℕ) × IsWalk (arcs_of net) source p walk × (weight (arcs_of net) walk ≡ neg_ℤ (time_at times p))
  least_walk zero p low within = absurd (omega arith)
  least_walk (suc k) p low within = ⊎_elim
      (λ (e : g.root ≡ p). let first = h.first in let t = ap (time_at times) e in ([], sym o.root ∙ e, omega (arith, ints)))
      (λ (other : g.root ≢ p).
      let b = at_rest p (λ e. other (sym e)) within in
      let falls = b.falls in
      let equal = b.equal in
      let n = get_or last p 0 in
      let many = as_many net source g valid o in
      let before = least_walk k (parent g last p) (omega arith) b.parent_in in
      let bound = bounds_at net source g valid o n in
      let sum = weight-append (arcs_of net) before.0 (n ∷ []) in
      let front = before.2 in (
        before.0 ++ n ∷ [],
        IsWalk-append (arcs_of net) source (parent g last p) p before.0 (n ∷ []) before.1
            (subst (λ (m : ℕ). n < m) many b.within, starts_at net source g valid o n, ends_at net source g valid o n ∙ b.starts),
        omega (arith, ints),
      ))
      (cases_eq g.root p)

  -- the distances, counted from z's, are a schedule
  time_from : (p : ℕ) → p < g.points → time_at (map (λ t. time_at times 0 -ℤ t) times) p ≡ time_at times 0 -ℤ time_at times p
  time_from p within = let long : p < length times = omega (arith, h.one_each) in lists.get_or-map (λ (t : ℤ). time_at times 0 -ℤ t) times p (pos 0) (pos 0) long

  schedule : Satisfies (point_count net) (arcs_of net) (map (λ t. time_at times 0 -ℤ t) times)
  schedule = record {
    one_each = length-map times (λ (t : ℤ). time_at times 0 -ℤ t) ∙ h.one_each ∙ o.points;
    first =
        let points = o.points in
        let z : 0 < g.points = omega arith in
        let t = time_from 0 z in
        omega (arith, ints);
    keeps = λ n lt.
        let many = as_many net source g valid o in
        let lt_g : n < length g.arcs.items = omega arith in
        let w : IsArcWithin g.points (arc_at g.arcs.items n) = valid.arcs n no_arc lt_g in
        let k = keeps n lt_g in
        let f = ap (time_at (map (λ t. time_at times 0 -ℤ t) times)) (starts_at net source g valid o n) ∙ time_from (to_at g.arcs.items n) w.ends in
        let t = ap (time_at (map (λ t. time_at times 0 -ℤ t) times)) (ends_at net source g valid o n) ∙ time_from (from_at g.arcs.items n) w.starts in
        let b = bounds_at net source g valid o n in
        omega (arith, ints);
  }

  pub consistent : IsConsistent (point_count net) (arcs_of net)
  consistent = (map (λ t. time_at times 0 -ℤ t) times, schedule)

  pub least : (p : ℕ) → p < g.points → (d : ℤ) → d ≡ neg_ℤ (time_at times p) → IsLeastBound (point_count net) (arcs_of net) source p d
  least p within d is =
      let w = least_walk (get_or h.stamps p 0 + 1) p (omega arith) within in
      let source_in : source < g.points = subst (λ (x : ℕ). x < g.points) o.root valid.root_in in
      let t = time_from p within in
      let s = time_from source source_in in
      let zeroth = sym (ap (time_at times) o.root) ∙ h.first in
      record {
        walk = w.0;
        is_walk = w.1;
        weighs = w.2 ∙ sym is;
        times = map (λ t. time_at times 0 -ℤ t) times;
        satisfies = schedule;
        attains = omega (arith, ints);
      }

  -- the last arc of a point other than the source, as an arc of the network
  pub last_ends : (p : ℕ) → p < point_count net → p ≢ source → (get_or last p 0 < length (arcs_of net)) × (to_at (arcs_of net) (get_or last p 0) ≡ p)
  last_ends p within other =
      let points = o.points in
      let many = as_many net source g valid o in
      let b = at_rest p (λ e. other (e ∙ o.root)) (omega arith) in
      let in_graph = b.within in
      (omega arith, ends_at net source g valid o (get_or last p 0) ∙ b.starts)

  pub last_tight : (ds : List ℤ) → ds ≡ map neg_ℤ times → (p : ℕ) → p < point_count net → p ≢ source
      → time_at ds p ≡ time_at ds (from_at (arcs_of net) (get_or last p 0)) +ℤ bound_at (arcs_of net) (get_or last p 0)
  last_tight ds is p within other =
      let points = o.points in
      let b = at_rest p (λ e. other (e ∙ o.root)) (omega arith) in
      let equal = b.equal in
      let bound = bounds_at net source g valid o (get_or last p 0) in
      let here = ap (λ (xs : List ℤ). time_at xs p) is ∙ get_or-map neg_ℤ times p (pos 0) in
      let start = ap (time_at ds) (starts_at net source g valid o (get_or last p 0)) in
      let there = ap (λ (xs : List ℤ). time_at xs (parent g last p)) is ∙ get_or-map neg_ℤ times (parent g last p) (pos 0) in
      omega (arith, ints)
