-- Every point at 0, by its arc to z.
use Rattle.std.proofs.Common.{◌≡◌, ◌≢◌, ℕ, ◌+◌, ◌-◌, ◌*◌, ◌<◌, ◌≤◌, ℤ, pos, ◌+ℤ◌, ◌-ℤ◌, ◌≤ℤ◌, ◌<ℤ◌, List, [], ◌∷◌, ◌++◌, length, get_or, set, replicate, refl, sym, ap, subst, ◌∙◌, ⊎_elim, inl, arith, unsigned_abs, length-set, get_or-set_same, get_or-set_other}
use Rattle.std.specs.List.{All, sum_by}
use Rattle.std.proofs.lemmas.Int.{ints}
use Rattle.std.proofs.lemmas.Bool.{cases_eq}
use Rattle.std.proofs.lemmas.List.{get_or-replicate, length_push, get_or_push, get_or_append_left, length-replicate}
use Rattle.std.proofs.lemmas.List.Sums.{sum_by-le}
use Rattle.stn_model.specs.Limits.{greatest_bound}
use Rattle.stn_model.specs.Net.{Net, arcs_of, point_count}
use Rattle.stn_model.specs.Valid.{IsNetwork}
use Rattle.stn_model.specs.Arcs.{arc_at, from_at, to_at, bound_at}
use Rattle.stn_model.specs.Schedules.{KeepsArcs, time_at}
use Rattle.stn_model.proofs.ArcLemmas.{arc_odd, lower_arc}
use Rattle.stn_model.proofs.NetLemmas.{length-arcs_of}
use Rattle.plain_solve.specs.declared.graph.Graph.{Graph}
use Rattle.plain_solve.specs.Graphs.{IsGraph, IsOnward}
use Rattle.plain_solve.specs.LabelFacts.{IsForcing, IsLast, IsInside, room}

abbrev pub all_one : Graph → List ℕ
all_one g = replicate g.points 1

-- the stamp of z is the least
abbrev pub first_stamps : Graph → List ℕ
first_stamps g = set (all_one g) 0 0

module _ (net : Net) (g : Graph) (valid : IsGraph g) (o : IsOnward net g) where
  lower : (p : ℕ) → p ≢ 0 → p < g.points → arc_at g.arcs.items (2 * p - 1) ≡ lower_arc p
  lower p away within =
      let points = o.points in
      ap (λ arcs. arc_at arcs (2 * p - 1)) o.arcs ∙ arc_odd net (2 * p - 1) (omega arith) (omega arith) ∙ ap lower_arc (omega arith)

  in_range : (p : ℕ) → p ≢ 0 → p < g.points → 2 * p - 1 < length g.arcs.items
  in_range p away within = let points = o.points in let many = ap (λ arcs. length arcs) o.arcs in omega (arith, length-arcs_of net)

  zero_at : (p : ℕ) → p < g.points → time_at (replicate g.points (pos 0)) p ≡ pos 0
  zero_at p within = get_or-replicate g.points p (pos 0) (pos 0) within

  one_at : (p : ℕ) → p ≢ 0 → p < g.points → get_or (first_stamps g) p 0 ≡ 1
  one_at p away within = get_or-set_other (all_one g) 0 p 0 0 away ∙ get_or-replicate g.points p 1 0 within

  some : 0 < g.points
  some = let points = o.points in omega arith

  none_at : get_or (first_stamps g) 0 0 ≡ 0
  none_at = let within : 0 < length (all_one g) = omega (arith, some, length-replicate {A = ℕ} g.points 1) in get_or-set_same (all_one g) 0 0 0 within

  first_last : (p n : ℕ) → p ≢ 0 → p < g.points → n ≡ 2 * p - 1 → IsLast g.arcs.items (replicate g.points (pos 0)) (first_stamps g) p n
  first_last p n away within e =
      let is : arc_at g.arcs.items n ≡ lower_arc p = ap (arc_at g.arcs.items) e ∙ lower p away within in
      let end : to_at g.arcs.items n ≡ 0 = ap (λ a. a.to.0) is in
      let bound : bound_at g.arcs.items n ≡ pos 0 = ap (λ a. a.bound) is in
      let here = zero_at p within in
      let there = ap (time_at (replicate g.points (pos 0))) end ∙ zero_at 0 some in
      let stamp = one_at p away within in
      let stamp_end = ap (λ (x : ℕ). get_or (first_stamps g) x 0) end ∙ none_at in
      let low = in_range p away within in
      record { within = omega arith; starts = ap (λ a. a.from.0) is; forces = inl (omega (arith, ints), omega arith) }

  pub starts : (times : List ℤ) (last : List ℕ) → times ≡ replicate g.points (pos 0) → length last ≡ g.points
      → ((p : ℕ) → 0 < p → p < g.points → get_or last p 0 ≡ 2 * p - 1) → IsForcing g times last 0
  starts times last e many each = subst (λ (ts : List ℤ). IsForcing g ts last 0) (sym e) (record {
    one_each = length-replicate g.points (pos 0);
    last_each = many;
    first = let root = o.root in zero_at g.root valid.root_in;
    inside = λ p within. let z = zero_at p within in let top = valid.top_low in record { low = omega (arith, ints); high = omega (arith, ints) };
    stamps = first_stamps g;
    stamp_each = length-set (all_one g) 0 0 ∙ length-replicate {A = ℕ} g.points 1;
    next = 2;
    stamped = λ p within. ⊎_elim
        (λ (e : p ≡ 0). let s = ap (λ (x : ℕ). get_or (first_stamps g) x 0) e ∙ none_at in omega arith)
        (λ (e : p ≢ 0). let s = one_at p e within in omega arith)
        (cases_eq p 0);
    each = λ p away within.
        let other : p ≢ 0 = λ z. away (z ∙ sym o.root) in
        let low : 0 < p = omega arith in
        first_last p (get_or last p 0) other within (each p low within);
    below = λ other keeps p within.
        let root_is = ap (time_at other) o.root in
        ⊎_elim
        (λ (e : p ≡ 0). let z = zero_at p within in let t = ap (time_at other) e in omega (arith, ints))
        (λ (e : p ≢ 0).
        let z = zero_at p within in
        let is = lower p e within in
        let k = keeps (2 * p - 1) (in_range p e within) in
        let f = ap (λ a. time_at other a.from.0) is in
        let t = ap (λ a. time_at other a.to.0) is in
        let b = ap (λ a. a.bound) is in
        omega (arith, ints))
        (cases_eq p 0);
    counted =
        let s = sum_by-le (λ t. unsigned_abs (g.top -ℤ t)) (2 * greatest_bound) (replicate g.points (pos 0)) (λ k d lt.
        let within : k < g.points = omega (arith, length-replicate g.points (pos 0)) in
        let z = get_or-replicate g.points k (pos 0) d within in
        let low = valid.top_low in
        let high = valid.top_high in
        omega (arith, ints)) in
        let len = length-replicate g.points (pos 0) in
        let few = valid.few_points in
        omega arith;
  })

-- one more last arc
pub last_push : (old : List ℕ) (n : ℕ) → length old ≡ n → ((p : ℕ) → 0 < p → p < n → get_or old p 0 ≡ 2 * p - 1)
    → (p : ℕ) → 0 < p → p < n + 1 → get_or (old ++ (2 * n - 1) ∷ []) p 0 ≡ 2 * p - 1
last_push old n len each p low lt = ⊎_elim
    (λ (e : p ≡ n). ap (λ (x : ℕ). get_or (old ++ (2 * n - 1) ∷ []) x 0) e ∙ get_or_push old (2 * n - 1) 0 n len ∙ ap (λ (x : ℕ). 2 * x - 1) (sym e))
    (λ (e : p ≢ n). let within : p < length old = omega arith in let before : p < n = omega arith in get_or_append_left old ((2 * n - 1) ∷ []) 0 p within ∙ each p low before)
    (cases_eq p n)
