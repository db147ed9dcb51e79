-- What a dispatcher's tables begin with, of a local network that some schedule satisfies.
use Rattle.std.proofs.Common.{◌≡◌, ◌≢◌, ℕ, ◌<◌, ◌≤◌, ℤ, pos, neg_ℤ, ◌-ℤ◌, ◌≤ℤ◌, List, map, length, replicate, get_or, refl, sym, ap, subst, ◌∙◌, ⊎_elim, arith, get_or-set_same, get_or-set_other, length-set, Option, Some, None, is_some}
use Rattle.std.specs.List.{Contains}
use Rattle.std.proofs.lemmas.List.{get_or_default, get_or_past, get_or-replicate, length-replicate, length-map}
use Rattle.std.proofs.lemmas.Int.{ints}
use Rattle.std.proofs.lemmas.Bool.{cases_eq, cases_lt, false≢true}
use Rattle.stn_model.specs.Limits.{greatest_bound}
use Rattle.stn_model.specs.declared.ids.Constraint.{Constraint}
use Rattle.stn_model.specs.Arcs.{arc_at, from_at, to_at, no_arc}
use Rattle.stn_model.specs.Schedules.{KeepsArcs, time_at}
use Rattle.stn_model.proofs.ArcLemmas.{upper_arc, lower_arc}
use Rattle.stn_model.proofs.Bridges.{arc_contained}
use Rattle.elim_step.specs.Eliminated.{point_at}
use Rattle.private_elim.specs.Locals.{LocalView, IsLocal, arcs_in}
use Rattle.private_elim.proofs.locals.LocalFacts.{z_first, z_contained, arc_joins, upper_contained, lower_contained}
use Rattle.dispatcher.specs.Falling.{IsArcAmong, IsSafe, Falls}
use Rattle.dispatcher.specs.Choices.{IsScheduleOf, Keeps, choice_at}
use Rattle.dispatcher.specs.Standing.{exchanged, IsStanding}
use Rattle.dispatcher.specs.Plans.{late_start, early_start, none_chosen}
use Rattle.dispatcher.proofs.Standings.{exchanged_at, turned_holds}

-- no point is chosen
pub none_at : (labels p : ℕ) → choice_at (none_chosen labels) p ≡ None
none_at labels p =
    let len = length-replicate {A = Option ℤ} labels None in
    ⊎_elim
    (λ (lt : p < labels). get_or-replicate {A = Option ℤ} labels p None None lt)
    (λ (past : labels ≤ p). get_or_past (replicate {A = Option ℤ} labels None) p None (omega arith))
    (cases_lt p labels)

module _ (v : LocalView) (h : IsLocal v) (labels : ℕ) (known : (p : ℕ) → Contains v.points p → p < labels) where
  among : (size : ℕ) → size ≡ labels → (n : ℕ) → n < length (arcs_in v) → IsArcAmong v.points size (arc_at (arcs_in v) n)
  among size same n lt =
      let j = arc_joins v h (arc_at (arcs_in v) n) (arc_contained (arcs_in v) n lt) in
      record {
        from_known = j.starts;
        to_known = j.ends;
        from_in = let k = known (arc_at (arcs_in v) n).from.0 j.starts in omega (arith, same);
        to_in = let k = known (arc_at (arcs_in v) n).to.0 j.ends in omega (arith, same);
        low = j.low;
        high = j.high;
      }

  turned_among : (size : ℕ) → size ≡ labels → (n : ℕ) → n < length (map exchanged (arcs_in v)) → IsArcAmong v.points size (arc_at (map exchanged (arcs_in v)) n)
  turned_among size same n lt =
      let short : n < length (arcs_in v) = let e = length-map (arcs_in v) exchanged in omega arith in
      let a = among size same n short in
      subst (IsArcAmong v.points size) (sym (exchanged_at (arcs_in v) n short)) (record {
        from_known = a.to_known;
        to_known = a.from_known;
        from_in = a.to_in;
        to_in = a.from_in;
        low = a.low;
        high = a.high;
      })

  -- an arc of the local network holds at each of its schedules
  holds_there : (times : List ℤ) → KeepsArcs (arcs_in v) times → (a : Constraint) → Contains (arcs_in v) a
      → (time_at times a.to.0 -ℤ time_at times a.from.0) ≤ℤ a.bound
  holds_there times keeps a there =
      let is : arc_at (arcs_in v) there.0 ≡ a = get_or_default (arcs_in v) there.0 no_arc a there.1 ∙ there.2 in
      subst (λ (x : Constraint). (time_at times x.to.0 -ℤ time_at times x.from.0) ≤ℤ x.bound) is (keeps there.0 there.1)

  -- so no schedule puts a point before 0 or past 2^40
  lies_within : (times : List ℤ) → IsScheduleOf (arcs_in v) times → (p : ℕ) → Contains v.points p
      → (pos 0 ≤ℤ time_at times p) × (time_at times p ≤ℤ pos greatest_bound)
  lies_within times fits p there =
      let k = there.0 in
      let at : point_at v.points k ≡ p = get_or_default v.points k 0 p there.1 ∙ there.2 in
      let z = fits.0 in
      let t = ap (time_at times) at in
      ⊎_elim
      (λ (above : 0 < k).
      let up : (time_at times (point_at v.points k) -ℤ time_at times 0) ≤ℤ h.net.horizon =
      holds_there times fits.1 (upper_arc h.net.horizon (point_at v.points k)) (upper_contained v h k above there.1) in
      let down : (time_at times 0 -ℤ time_at times (point_at v.points k)) ≤ℤ pos 0 =
      holds_there times fits.1 (lower_arc (point_at v.points k)) (lower_contained v h k above there.1) in
      let high = h.valid.horizon_high in
      (omega (arith, ints), omega (arith, ints)))
      (λ (low : k ≤ 0).
      let e : k ≡ 0 = omega arith in
      let first = ap (time_at times) (sym at ∙ ap (point_at v.points) e ∙ z_first v h) in
      (omega (arith, ints), omega (arith, ints)))
      (cases_lt 0 k)

  some_label : 0 < labels
  some_label = known 0 (z_contained v h)

  late_size : length (late_start labels) ≡ labels
  late_size = length-set (replicate {A = ℤ} labels (pos greatest_bound)) 0 (pos 0) ∙ length-replicate {A = ℤ} labels (pos greatest_bound)

  early_size : length (early_start labels) ≡ labels
  early_size = length-replicate {A = ℤ} labels (pos 0)

  late_z : time_at (late_start labels) 0 ≡ pos 0
  late_z =
      let len = length-replicate {A = ℤ} labels (pos greatest_bound) in
      let some = some_label in
      get_or-set_same (replicate {A = ℤ} labels (pos greatest_bound)) 0 (pos 0) (pos 0) (omega arith)

  late_other : (q : ℕ) → q ≢ 0 → q < labels → time_at (late_start labels) q ≡ pos greatest_bound
  late_other q other lt =
      get_or-set_other (replicate {A = ℤ} labels (pos greatest_bound)) 0 q (pos 0) (pos 0) other
      ∙ get_or-replicate {A = ℤ} labels q (pos greatest_bound) (pos 0) lt

  early_at : (q : ℕ) → Contains v.points q → time_at (early_start labels) q ≡ pos 0
  early_at q there = get_or-replicate {A = ℤ} labels q (pos 0) (pos 0) (known q there)

  -- the tables are not below what any schedule asks
  late_over : (times : List ℤ) → IsScheduleOf (arcs_in v) times → (q : ℕ) → Contains v.points q → time_at times q ≤ℤ time_at (late_start labels) q
  late_over times fits q there = ⊎_elim
      (λ (e : q ≡ 0).
      let a = ap (time_at times) e in
      let b = ap (time_at (late_start labels)) e in
      let c = late_z in
      let z = fits.0 in
      omega (arith, ints))
      (λ (other : q ≢ 0).
      let w = (lies_within times fits q there).1 in
      let c = late_other q other (known q there) in
      omega (arith, ints))
      (cases_eq q 0)

  late_most : (q : ℕ) → Contains v.points q → time_at (late_start labels) q ≤ℤ pos greatest_bound
  late_most q there = ⊎_elim
      (λ (e : q ≡ 0). let b = ap (time_at (late_start labels)) e in let c = late_z in omega (arith, ints))
      (λ (other : q ≢ 0). let c = late_other q other (known q there) in omega (arith, ints))
      (cases_eq q 0)

  early_over : (times : List ℤ) → IsScheduleOf (arcs_in v) times → (q : ℕ) → Contains v.points q → neg_ℤ (time_at times q) ≤ℤ time_at (early_start labels) q
  early_over times fits q there = let w = (lies_within times fits q there).0 in let e = early_at q there in omega (arith, ints)

  module _ (times : List ℤ) (fits : IsScheduleOf (arcs_in v) times) where
    pub late_starts : IsSafe (arcs_in v) (late_start labels)
    late_starts = record {
      known = v.points;
      among = among (length (late_start labels)) late_size;
      floor = time_at times;
      holds = fits.1;
      deep = λ q there. let w = (lies_within times fits q there).0 in omega (arith, ints);
      above = late_over times fits;
      high = late_most;
    }

    pub early_starts : IsSafe (map exchanged (arcs_in v)) (early_start labels)
    early_starts = record {
      known = v.points;
      among = turned_among (length (early_start labels)) early_size;
      floor = λ q. neg_ℤ (time_at times q);
      holds = turned_holds (arcs_in v) (time_at times) fits.1;
      deep = λ q there. let w = (lies_within times fits q there).1 in omega (arith, ints);
      above = early_over times fits;
      high = λ q there. let e = early_at q there in omega (arith, ints);
    }

    -- what falls from there stands for no choice
    pub stands_first : (late soon : List ℤ) → Falls (arcs_in v) (late_start labels) late → KeepsArcs (arcs_in v) late
        → Falls (map exchanged (arcs_in v)) (early_start labels) soon → KeepsArcs (map exchanged (arcs_in v)) soon
        → IsStanding (arcs_in v) v.points (none_chosen labels) late soon
    stands_first late soon fall holds fell turned =
        let late_len : length late ≡ labels = fall.one_each ∙ late_size in
        let soon_len : length soon ≡ labels = fell.one_each ∙ early_size in
        let none_len = length-replicate {A = Option ℤ} labels None in
        let ends : (n : ℕ) → n < length (arcs_in v) → Contains v.points (from_at (arcs_in v) n) × Contains v.points (to_at (arcs_in v) n) =
        λ n lt. ((among labels refl n lt).from_known, (among labels refl n lt).to_known) in
        let turned_ends : (n : ℕ) → n < length (map exchanged (arcs_in v))
        → Contains v.points (from_at (map exchanged (arcs_in v)) n) × Contains v.points (to_at (map exchanged (arcs_in v)) n) =
        λ n lt. ((turned_among labels refl n lt).from_known, (turned_among labels refl n lt).to_known) in
        let z = fits.0 in
        record {
          among = among (length late) late_len;
          early_each = omega arith;
          choice_each = omega arith;
          z_known = z_contained v h;
          known = λ q there. let k = known q there in omega arith;
          chosen_known = λ q u e. absurd (false≢true (ap is_some (sym (none_at labels q) ∙ e)));
          keeps = record {
            schedule = (
              (let b = fall.below 0 in
                  let g = fall.greatest v.points ends (time_at times) fits.1 (late_over times fits) 0 (z_contained v h) in
                  let c = late_z in
                  omega (arith, ints)),
              holds,
            );
            chosen = λ q u e. absurd (false≢true (ap is_some (sym (none_at labels q) ∙ e)));
          };
          turned_keep = turned;
          early_z =
              let b = fell.below 0 in
              let g = fell.greatest v.points turned_ends (λ q. neg_ℤ (time_at times q)) (turned_holds (arcs_in v) (time_at times) fits.1) (early_over times fits)
              0 (z_contained v h) in
              let c = early_at 0 (z_contained v h) in
              omega (arith, ints);
          early_chosen = λ q u e. absurd (false≢true (ap is_some (sym (none_at labels q) ∙ e)));
          greatest = λ other k. fall.greatest v.points ends (time_at other) k.schedule.1 (late_over other k.schedule);
          least = λ other k q there.
              let g = fell.greatest v.points turned_ends (λ r. neg_ℤ (time_at other r)) (turned_holds (arcs_in v) (time_at other) k.schedule.1)
              (early_over other k.schedule) q there in
              omega (arith, ints);
          late_high = λ q there. let b = fall.below q in let m = late_most q there in omega (arith, ints);
          early_low = λ q there. let b = fell.below q in let e = early_at q there in omega (arith, ints);
        }
