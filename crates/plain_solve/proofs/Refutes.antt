-- What is read of labels at the ends of an arc, and the closed walks that refute too late a time.
use Rattle.std.proofs.Common.{◌≡◌, ◌≢◌, ℕ, ◌+◌, ◌-◌, ◌*◌, ◌<◌, ◌≤◌, ℤ, pos, neg_ℤ, ◌+ℤ◌, ◌-ℤ◌, ◌≤ℤ◌, ◌<ℤ◌, List, [], ◌∷◌, length, get_or, refl, sym, ap, subst, ◌∙◌, ⊎_elim, arith, unsigned_abs}
use Rattle.std.proofs.lemmas.Int.{ints}
use Rattle.std.proofs.lemmas.List.{get_or_read}
use Rattle.std.proofs.lemmas.List.Sums.{get_or-le-sum_by}
use Rattle.stn_model.specs.Limits.{greatest_bound, greatest_walk}
use Rattle.stn_model.specs.declared.ids.Constraint.{Constraint}
use Rattle.stn_model.specs.Net.{Net, arcs_of, point_count}
use Rattle.stn_model.specs.Arcs.{arc_at, from_at, to_at, bound_at, no_arc}
use Rattle.stn_model.specs.Valid.{IsArcWithin}
use Rattle.stn_model.specs.Schedules.{time_at}
use Rattle.stn_model.specs.Walks.{IsWalk, weight, IsNegativeClosed}
use Rattle.stn_model.proofs.ArcLemmas.{arc_even, upper_arc}
use Rattle.stn_model.proofs.NetLemmas.{length-arcs_of}
use Rattle.plain_solve.specs.declared.graph.Graph.{Graph}
use Rattle.plain_solve.specs.declared.labels.Labels.{Labels}
use Rattle.plain_solve.specs.Graphs.{IsGraph, IsOnward}
use Rattle.plain_solve.specs.LabelFacts.{IsForcing, IsOver, room}

-- an arc that was read
pub record ReadsArc (g : Graph) (n : ℕ) (a : Constraint) : Type 0 where
  pub is : arc_at g.arcs.items n ≡ a
  pub from_is : from_at g.arcs.items n ≡ a.from.0
  pub to_is : to_at g.arcs.items n ≡ a.to.0
  pub bound_is : bound_at g.arcs.items n ≡ a.bound
  pub from_in : a.from.0 < g.points
  pub to_in : a.to.0 < g.points
  pub bound_low : neg_ℤ (pos greatest_bound) ≤ℤ a.bound
  pub bound_high : a.bound ≤ℤ pos greatest_bound

pub read_arc : (g : Graph) → IsGraph g → (n : ℕ) (a : Constraint) → n < length g.arcs.items → a ≡ arc_at g.arcs.items n → ReadsArc g n a
read_arc g valid n a lt read =
    let is : arc_at g.arcs.items n ≡ a = sym read in
    let w : IsArcWithin g.points a = subst (IsArcWithin g.points) is (valid.arcs n no_arc lt) in
    record {
      is = is;
      from_is = ap (λ e. e.from.0) is;
      to_is = ap (λ e. e.to.0) is;
      bound_is = ap (λ e. e.bound) is;
      from_in = w.starts;
      to_in = w.ends;
      bound_low = w.low;
      bound_high = w.high;
    }

-- a label that was read at a point
pub record ReadsLabel (g : Graph) (times : List ℤ) (p : ℕ) (x : ℤ) : Type 0 where
  pub label : time_at times p ≡ x
  pub low : neg_ℤ (pos greatest_bound) ≤ℤ x
  pub high : x ≤ℤ g.top
  pub small : g.top ≤ℤ pos greatest_bound

module _ (g : Graph) (times : List ℤ) (last : List ℕ) (raises : ℕ) (h : IsForcing g times last raises) (valid : IsGraph g) where
  pub read_label : (p : ℕ) (x : ℤ) → p < g.points → x ≡ get_or times p x → ReadsLabel g times p x
  read_label p x within read =
      let in_times : p < length times = omega (arith, h.one_each) in
      let is : time_at times p ≡ x = sym (get_or_read times p x in_times read (pos 0)) in
      let i = h.inside p within in
      let low = i.low in
      let high = i.high in
      record { label = is; low = omega (arith, ints); high = omega (arith, ints); small = valid.top_high }

  -- where a label can still rise, few raises have been made
  pub few : (p : ℕ) → p < g.points → time_at times p <ℤ g.top → raises < 2 * greatest_walk
  few p within more =
      let in_times : p < length times = omega (arith, h.one_each) in
      let s = get_or-le-sum_by (λ t. unsigned_abs (g.top -ℤ t)) times p (pos 0) in_times in
      let c = h.counted in
      omega (arith, ints)

-- an arc from the root 0 that asks for a label of it above 0
over_root : (arcs : List Constraint) (n q : ℕ) (t : ℤ) (w ns : List ℕ) → n < length arcs → from_at arcs n ≡ 0 → to_at arcs n ≡ q
    → IsWalk arcs q 0 w → weight arcs w ≤ℤ (pos 0 -ℤ t) → pos 0 <ℤ (t -ℤ bound_at arcs n) → ns ≡ n ∷ w → IsNegativeClosed arcs ns
over_root arcs n q t w ns lt from_is to_is walk light over e = subst (IsNegativeClosed arcs) (sym e) (record {
  start = 0;
  walk = (lt, from_is, subst (λ (x : ℕ). IsWalk arcs x 0 w) (sym to_is) walk);
  negative = omega (arith, ints);
})

-- an arc that asks for a label of p above the bound of the arc up, from 0 to p
over_top : (arcs : List Constraint) (up n p q : ℕ) (h t : ℤ) (w ns : List ℕ) → up < length arcs
    → arc_at arcs up ≡ upper_arc h p → n < length arcs → from_at arcs n ≡ p → to_at arcs n ≡ q
    → IsWalk arcs q 0 w → weight arcs w ≤ℤ (pos 0 -ℤ t) → h <ℤ (t -ℤ bound_at arcs n) → ns ≡ up ∷ n ∷ w → IsNegativeClosed arcs ns
over_top arcs up n p q h t w ns up_lt up_is lt from_is to_is walk light over e =
    let top = ap (λ a. a.bound) up_is in
    subst (IsNegativeClosed arcs) (sym e) (record {
      start = 0;
      walk = (up_lt, ap (λ a. a.from.0) up_is, (lt, from_is ∙ sym (ap (λ a. a.to.0) up_is), subst (λ (x : ℕ). IsWalk arcs x 0 w) (sym to_is) walk));
      negative = omega (arith, ints);
    })

-- an arc of a network that asks for too late a time, before a walk along last arcs from its end to z
module _ (net : Net) (g : Graph) (o : IsOnward net g) (s : Labels) (n : ℕ) (a : Constraint) (r : ReadsArc g n a) (x : IsOver g s n) (w ns : List ℕ)
    (walk : IsWalk g.arcs.items a.to.0 g.root w) (light : weight g.arcs.items w ≤ℤ (pos 0 -ℤ time_at s.times.items a.to.0)) where
  to_z : IsWalk g.arcs.items a.to.0 0 w
  to_z = subst (λ (z : ℕ). IsWalk g.arcs.items a.to.0 z w) o.root walk

  pub refuted_root : a.from.0 ≡ 0 → ns ≡ n ∷ w → IsNegativeClosed (arcs_of net) ns
  refuted_root zeroth e =
      let head = ap (time_at s.times.items) r.to_is in
      let root = o.root in
      let from_is = r.from_is in
      let over : pos 0 <ℤ (time_at s.times.items a.to.0 -ℤ bound_at g.arcs.items n) = ⊎_elim
      (λ (z : (from_at g.arcs.items n ≡ g.root) × (pos 0 <ℤ (time_at s.times.items (to_at g.arcs.items n) -ℤ bound_at g.arcs.items n))). let more = z.1 in omega (arith, ints))
      (λ (p : (from_at g.arcs.items n ≢ g.root) × (g.top <ℤ (time_at s.times.items (to_at g.arcs.items n) -ℤ bound_at g.arcs.items n))). let away = p.0 in absurd (omega arith))
      x.over in
      subst (λ (arcs : List Constraint). IsNegativeClosed arcs ns) o.arcs
      (over_root g.arcs.items n a.to.0 (time_at s.times.items a.to.0) w ns x.within (r.from_is ∙ zeroth) r.to_is to_z light over e)

  pub refuted_top : a.from.0 ≢ 0 → ns ≡ (2 * a.from.0 - 2) ∷ n ∷ w → IsNegativeClosed (arcs_of net) ns
  refuted_top away e =
      let head = ap (time_at s.times.items) r.to_is in
      let root = o.root in
      let points = o.points in
      let from_is = r.from_is in
      let from_in = r.from_in in
      let top = o.top in
      let many = ap (λ arcs. length arcs) o.arcs in
      let over : net.horizon <ℤ (time_at s.times.items a.to.0 -ℤ bound_at g.arcs.items n) = ⊎_elim
      (λ (z : (from_at g.arcs.items n ≡ g.root) × (pos 0 <ℤ (time_at s.times.items (to_at g.arcs.items n) -ℤ bound_at g.arcs.items n))). let zeroth = z.0 in absurd (omega arith))
      (λ (p : (from_at g.arcs.items n ≢ g.root) × (g.top <ℤ (time_at s.times.items (to_at g.arcs.items n) -ℤ bound_at g.arcs.items n))). let more = p.1 in omega (arith, ints))
      x.over in
      let up_is : arc_at g.arcs.items (2 * a.from.0 - 2) ≡ upper_arc net.horizon a.from.0 =
      ap (λ arcs. arc_at arcs (2 * a.from.0 - 2)) o.arcs ∙ arc_even net (2 * a.from.0 - 2) (omega arith) (omega arith) ∙ ap (upper_arc net.horizon) (omega arith) in
      subst (λ (arcs : List Constraint). IsNegativeClosed arcs ns) o.arcs
      (over_top g.arcs.items (2 * a.from.0 - 2) n a.from.0 a.to.0 net.horizon (time_at s.times.items a.to.0)
      w ns (omega (arith, length-arcs_of net)) up_is x.within r.from_is r.to_is to_z light over e)
