-- Each point at its walk over z, on the arcs turned round.
use Rattle.std.proofs.Common.{◌≡◌, ◌≢◌, ℕ, ◌+◌, ◌-◌, ◌*◌, ◌<◌, ◌≤◌, ℤ, pos, neg_ℤ, ◌+ℤ◌, ◌-ℤ◌, ◌≤ℤ◌, ◌<ℤ◌, List, [], ◌∷◌, ◌++◌, length, get_or, set, replicate, refl, sym, ap, subst, ◌∙◌, ⊎_elim, inl, arith, unsigned_abs, length-set, get_or-set_same, get_or-set_other}
use Rattle.std.specs.List.{All, sum_by}
use Rattle.std.proofs.lemmas.Int.{ints}
use Rattle.std.proofs.lemmas.Bool.{cases_eq}
use Rattle.std.proofs.lemmas.List.{get_or-replicate, length_push, get_or_push, get_or_append_left, length-replicate, get_or_default, length-map}
use Rattle.std.proofs.lemmas.List.Sums.{sum_by-le}
use Rattle.stn_model.specs.Limits.{greatest_bound}
use Rattle.stn_model.specs.declared.ids.Constraint.{Constraint}
use Rattle.stn_model.specs.Net.{Net, arcs_of, point_count}
use Rattle.stn_model.specs.Arcs.{arc_at, from_at, to_at, bound_at}
use Rattle.stn_model.specs.Schedules.{KeepsArcs, time_at}
use Rattle.stn_model.proofs.ArcLemmas.{arc_even, arc_odd, lower_arc, upper_arc}
use Rattle.stn_model.proofs.NetLemmas.{length-arcs_of}
use Rattle.plain_solve.specs.declared.graph.Graph.{Graph}
use Rattle.plain_solve.specs.Graphs.{IsGraph, IsTurned, exchanged}
use Rattle.plain_solve.specs.LabelFacts.{IsForcing, IsLast, IsInside, room}
use Rattle.plain_solve.proofs.GraphLemmas.{arc_turned}

abbrev pub farthest : Graph → List ℤ
farthest g = replicate g.points (neg_ℤ g.top)

-- the source and z at 0, the others as far below as the horizon
abbrev pub first_labels : Graph → ℕ → List ℤ
first_labels g source = set (set (farthest g) 0 (pos 0)) source (pos 0)

abbrev pub all_two : Graph → List ℕ
all_two g = replicate g.points 2

-- the source before z, z before the others
abbrev pub first_stamps : Graph → ℕ → List ℕ
first_stamps g source = set (set (all_two g) 0 1) source 0

module _ (net : Net) (source : ℕ) (g : Graph) (valid : IsGraph g) (o : IsTurned net source g) where
  source_in : source < g.points
  source_in = let r = valid.root_in in let root = o.root in omega arith

  some : 0 < g.points
  some = let s = source_in in omega arith

  many : length g.arcs.items ≡ length (arcs_of net)
  many = ap (λ xs. length xs) o.arcs ∙ length-map (arcs_of net) exchanged

  up : (p : ℕ) → p ≢ 0 → p < g.points → arc_at g.arcs.items (2 * p - 2) ≡ exchanged (upper_arc net.horizon p)
  up p away within =
      let points = o.points in
      arc_turned net source g o (2 * p - 2) ∙ ap exchanged (arc_even net (2 * p - 2) (omega arith) (omega arith) ∙ ap (upper_arc net.horizon) (omega arith))

  down : source ≢ 0 → arc_at g.arcs.items (2 * source - 1) ≡ exchanged (lower_arc source)
  down away =
      let points = o.points in
      let within = source_in in
      arc_turned net source g o (2 * source - 1) ∙ ap exchanged (arc_odd net (2 * source - 1) (omega arith) (omega arith) ∙ ap lower_arc (omega arith))

  in_range : (n : ℕ) → n < 2 * (g.points - 1) → n < length g.arcs.items
  in_range n lt = let points = o.points in let m = many in omega (arith, length-arcs_of net)

  at_source : time_at (first_labels g source) source ≡ pos 0
  at_source =
      let long : source < length (set (farthest g) 0 (pos 0)) = omega (arith, source_in, length-set (farthest g) 0 (pos 0), length-replicate g.points (neg_ℤ g.top)) in
      get_or-set_same (set (farthest g) 0 (pos 0)) source (pos 0) (pos 0) long

  at_z : time_at (first_labels g source) 0 ≡ pos 0
  at_z = ⊎_elim
      (λ (e : 0 ≡ source). ap (time_at (first_labels g source)) e ∙ at_source)
      (λ (e : 0 ≢ source).
      let long : 0 < length (farthest g) = omega (arith, some, length-replicate g.points (neg_ℤ g.top)) in
      get_or-set_other (set (farthest g) 0 (pos 0)) source 0 (pos 0) (pos 0) e ∙ get_or-set_same (farthest g) 0 (pos 0) (pos 0) long)
      (cases_eq 0 source)

  at_other : (p : ℕ) → p < g.points → p ≢ 0 → p ≢ source → time_at (first_labels g source) p ≡ neg_ℤ g.top
  at_other p within away other =
      get_or-set_other (set (farthest g) 0 (pos 0)) source p (pos 0) (pos 0) other ∙ get_or-set_other (farthest g) 0 p (pos 0) (pos 0) away
      ∙ get_or-replicate g.points p (neg_ℤ g.top) (pos 0) within

  stamp_source : get_or (first_stamps g source) source 0 ≡ 0
  stamp_source =
      let long : source < length (set (all_two g) 0 1) = omega (arith, source_in, length-set (all_two g) 0 1, length-replicate {A = ℕ} g.points 2) in
      get_or-set_same (set (all_two g) 0 1) source 0 0 long

  stamp_z : 0 ≢ source → get_or (first_stamps g source) 0 0 ≡ 1
  stamp_z e =
      let long : 0 < length (all_two g) = omega (arith, some, length-replicate {A = ℕ} g.points 2) in
      get_or-set_other (set (all_two g) 0 1) source 0 0 0 e ∙ get_or-set_same (all_two g) 0 1 0 long

  stamp_z_low : get_or (first_stamps g source) 0 0 < 2
  stamp_z_low = ⊎_elim
      (λ (e : 0 ≡ source). let s = ap (λ (x : ℕ). get_or (first_stamps g source) x 0) e ∙ stamp_source in omega arith)
      (λ (e : 0 ≢ source). let s = stamp_z e in omega arith)
      (cases_eq 0 source)

  stamp_other : (p : ℕ) → p < g.points → p ≢ 0 → p ≢ source → get_or (first_stamps g source) p 0 ≡ 2
  stamp_other p within away other =
      get_or-set_other (set (all_two g) 0 1) source p 0 0 other ∙ get_or-set_other (all_two g) 0 p 1 0 away ∙ get_or-replicate g.points p 2 0 within

  -- z, where it is not the source
  last_z : (n : ℕ) → 0 ≢ source → n ≡ 2 * source - 1 → IsLast g.arcs.items (first_labels g source) (first_stamps g source) 0 n
  last_z n other e =
      let away : source ≢ 0 = λ z. other (sym z) in
      let is : arc_at g.arcs.items n ≡ exchanged (lower_arc source) = ap (arc_at g.arcs.items) e ∙ down away in
      let end : to_at g.arcs.items n ≡ source = ap (λ a. a.to.0) is in
      let bound : bound_at g.arcs.items n ≡ pos 0 = ap (λ a. a.bound) is in
      let here = at_z in
      let there = ap (time_at (first_labels g source)) end ∙ at_source in
      let stamp = stamp_z other in
      let stamp_end = ap (λ (x : ℕ). get_or (first_stamps g source) x 0) end ∙ stamp_source in
      let s_in = source_in in
      record { within = in_range n (omega arith); starts = ap (λ a. a.from.0) is; forces = inl (omega (arith, ints), omega arith) }

  last_other : (p n : ℕ) → p < g.points → p ≢ 0 → p ≢ source → n ≡ 2 * p - 2 → IsLast g.arcs.items (first_labels g source) (first_stamps g source) p n
  last_other p n within away other e =
      let is : arc_at g.arcs.items n ≡ exchanged (upper_arc net.horizon p) = ap (arc_at g.arcs.items) e ∙ up p away within in
      let end : to_at g.arcs.items n ≡ 0 = ap (λ a. a.to.0) is in
      let bound : bound_at g.arcs.items n ≡ net.horizon = ap (λ a. a.bound) is in
      let top = o.top in
      let here = at_other p within away other in
      let there = ap (time_at (first_labels g source)) end ∙ at_z in
      let stamp = stamp_other p within away other in
      let stamp_end = ap (λ (x : ℕ). get_or (first_stamps g source) x 0) end in
      let low = stamp_z_low in
      record { within = in_range n (omega arith); starts = ap (λ a. a.from.0) is; forces = inl (omega (arith, ints), omega arith) }

  inside : (p : ℕ) → p < g.points → IsInside g (time_at (first_labels g source) p)
  inside p within =
      let low = valid.top_low in
      let high = valid.top_high in
      ⊎_elim
      (λ (e : p ≡ source). let t = ap (time_at (first_labels g source)) e ∙ at_source in record { low = omega (arith, ints); high = omega (arith, ints) })
      (λ (other : p ≢ source).
      ⊎_elim
      (λ (e : p ≡ 0). let t = ap (time_at (first_labels g source)) e ∙ at_z in record { low = omega (arith, ints); high = omega (arith, ints) })
      (λ (away : p ≢ 0). let t = at_other p within away other in record { low = omega (arith, ints); high = omega (arith, ints) })
      (cases_eq p 0))
      (cases_eq p source)

  -- z is no later than the source, counted from it
  source_after : (other : List ℤ) → KeepsArcs g.arcs.items other → time_at other source ≤ℤ time_at other 0
  source_after other keeps = ⊎_elim
      (λ (e : source ≡ 0). let t = ap (time_at other) e in omega (arith, ints))
      (λ (away : source ≢ 0).
      let is = down away in
      let s_in = source_in in
      let k = keeps (2 * source - 1) (in_range (2 * source - 1) (omega arith)) in
      let f = ap (λ a. time_at other a.from.0) is in
      let t = ap (λ a. time_at other a.to.0) is in
      let b = ap (λ a. a.bound) is in
      omega (arith, ints))
      (cases_eq source 0)

  below : (other : List ℤ) → KeepsArcs g.arcs.items other → (p : ℕ) → p < g.points → time_at (first_labels g source) p ≤ℤ (time_at other p -ℤ time_at other source)
  below other keeps p within =
      let after = source_after other keeps in
      ⊎_elim
      (λ (e : p ≡ source). let t = ap (time_at (first_labels g source)) e ∙ at_source in let u = ap (time_at other) e in omega (arith, ints))
      (λ (apart : p ≢ source).
      ⊎_elim
      (λ (e : p ≡ 0). let t = ap (time_at (first_labels g source)) e ∙ at_z in let u = ap (time_at other) e in omega (arith, ints))
      (λ (away : p ≢ 0).
      let l = at_other p within away apart in
      let is = up p away within in
      let k = keeps (2 * p - 2) (in_range (2 * p - 2) (omega arith)) in
      let f = ap (λ a. time_at other a.from.0) is in
      let t = ap (λ a. time_at other a.to.0) is in
      let b = ap (λ a. a.bound) is in
      let top = o.top in
      omega (arith, ints))
      (cases_eq p 0))
      (cases_eq p source)

  pub labels_long : length (first_labels g source) ≡ g.points
  labels_long = length-set (set (farthest g) 0 (pos 0)) source (pos 0) ∙ length-set (farthest g) 0 (pos 0) ∙ length-replicate g.points (neg_ℤ g.top)

  pub starts : (times : List ℤ) (last : List ℕ) → times ≡ first_labels g source → length last ≡ g.points → get_or last 0 0 ≡ 2 * source - 1
      → ((p : ℕ) → 0 < p → p < g.points → get_or last p 0 ≡ 2 * p - 2) → IsForcing g times last 0
  starts times last e long zeroth each = subst (λ (ts : List ℤ). IsForcing g ts last 0) (sym e) (record {
    one_each = labels_long;
    last_each = long;
    first = ap (time_at (first_labels g source)) o.root ∙ at_source;
    inside = inside;
    stamps = first_stamps g source;
    stamp_each = length-set (set (all_two g) 0 1) source 0 ∙ length-set (all_two g) 0 1 ∙ length-replicate {A = ℕ} g.points 2;
    next = 3;
    stamped = λ p within. ⊎_elim
        (λ (e : p ≡ source). let s = ap (λ (x : ℕ). get_or (first_stamps g source) x 0) e ∙ stamp_source in omega arith)
        (λ (other : p ≢ source).
        ⊎_elim
        (λ (e : p ≡ 0). let s = ap (λ (x : ℕ). get_or (first_stamps g source) x 0) e in let low = stamp_z_low in omega arith)
        (λ (away : p ≢ 0). let s = stamp_other p within away other in omega arith)
        (cases_eq p 0))
        (cases_eq p source);
    each = λ p away within.
        let other : p ≢ source = λ z. away (z ∙ sym o.root) in
        ⊎_elim
        (λ (e : 0 ≡ p).
        subst (λ (x : ℕ). IsLast g.arcs.items (first_labels g source) (first_stamps g source) x (get_or last x 0)) e
        (last_z (get_or last 0 0) (λ z. other (sym e ∙ z)) zeroth))
        (λ (apart : 0 ≢ p).
        let away_0 : p ≢ 0 = λ z. apart (sym z) in
        let low : 0 < p = omega arith in
        last_other p (get_or last p 0) within away_0 other (each p low within))
        (cases_eq 0 p);
    below = λ other keeps p within. let root = ap (time_at other) o.root in let b = below other keeps p within in omega (arith, ints);
    counted =
        let s = sum_by-le (λ t. unsigned_abs (g.top -ℤ t)) (2 * greatest_bound) (first_labels g source) (λ k d lt.
        let len = labels_long in
        let within : k < g.points = omega arith in
        let i = inside k within in
        let low = i.low in
        let high = i.high in
        let same = get_or_default (first_labels g source) k (pos 0) d lt in
        let top = valid.top_high in
        omega (arith, ints)) in
        let len = labels_long in
        let few = valid.few_points in
        omega arith;
  })

-- one more last arc
pub last_push : (old : List ℕ) (n : ℕ) → length old ≡ n → ((p : ℕ) → 0 < p → p < n → get_or old p 0 ≡ 2 * p - 2)
    → (p : ℕ) → 0 < p → p < n + 1 → get_or (old ++ (2 * n - 2) ∷ []) p 0 ≡ 2 * p - 2
last_push old n len each p low lt = ⊎_elim
    (λ (e : p ≡ n). ap (λ (x : ℕ). get_or (old ++ (2 * n - 2) ∷ []) x 0) e ∙ get_or_push old (2 * n - 2) 0 n len ∙ ap (λ (x : ℕ). 2 * x - 2) (sym e))
    (λ (e : p ≢ n). let within : p < length old = omega arith in let before : p < n = omega arith in get_or_append_left old ((2 * n - 2) ∷ []) 0 p within ∙ each p low before)
    (cases_eq p n)
