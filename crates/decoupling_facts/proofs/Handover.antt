-- The boxes of the handover, worked: each final bound has its walk of meeting arcs, and no walk is lighter since a schedule lies as far apart;
-- each widened end meets its bound with z or an external arc: handover_holds.
use Rattle.std.proofs.Common.{◌≡◌, ◌≢◌, ℕ, zero, suc, ◌<◌, Bool, true, false, ◌&&◌, ◌||◌, not, List, [], ◌∷◌, Some, refl, sym, ap, subst, ◌∙◌, arith, inl, inr, ◌⊎◌, ⊎_elim}
use Rattle.std.specs.Prelude.{ℤ, pos, neg_ℤ, ◌+ℤ◌, ◌-ℤ◌, ◌≤ℤ◌, ◌==◌, int_le}
use Rattle.std.specs.List.{AllByRecursion, list_all}
use Rattle.std.proofs.lemmas.Int.{ints}
use Rattle.std.proofs.lemmas.Bool.{cases_eq, and_parts, or_cases}
use Rattle.std.proofs.lemmas.Bool.Decides.{nat_tests}
use Rattle.std.proofs.lemmas.List.Sums.{AllPass-from_list_all}
use Rattle.stn_model.specs.declared.ids.Constraint.{Constraint}
use Rattle.stn_model.specs.Arcs.{no_arc}
use Rattle.stn_model.specs.ArcWalks.{IsInner, IsInnerLeast, arcs_weight}
use Rattle.stn_model.specs.Conflicts.{external_arcs}
use Rattle.stn_model.specs.Net.{arcs_of, point_count}
use Rattle.stn_model.specs.Kinds.{is_shared}
use Rattle.stn_model.specs.Schedules.{KeepsArcs, Satisfies, IsConsistent, time_at}
use Rattle.stn_model.proofs.WalkLemmas.{least_bound_unique}
use Rattle.stn_model.proofs.Bridges.{inner_bounds}
use Rattle.stn_walk.proofs.Exits.{every}
use Rattle.meeting_arcs.proofs.MeetingLists.{meeting_is}
use Rattle.sample_nets.specs.Samples.{arc, handover}
use Rattle.decoupling_facts.specs.FinalBounds.{AreFinals, KeepsFinals}
use Rattle.decoupling_facts.specs.Windows.{LeavesWindow}
use Rattle.decoupling_facts.specs.Boxes.{Ends, AreBoxes, HasBoxEnds, IsTightEnd, WidensHigh, WidensLow, WidensAll}
use Rattle.decoupling_facts.specs.Handover.{ann_entries, bob_entries, meeting, is_met, joined, final, times, single, boxes, by_number, turned, IsLeast, HandoverBoxes}
use Rattle.decoupling_facts.specs.LocalNetworks.{decoupled_arcs}
use Rattle.decoupling_facts.specs.Decouplings.{IsDecoupling}
use Rattle.decoupling_facts.proofs.Blockers.{high_blocked}
use Rattle.decoupling_facts.proofs.Lists.{all_at}
use Rattle.decoupling_facts.proofs.Boxes.{times_boxes, all_keep, all_tight}

abbrev externals : List Constraint
externals = external_arcs handover

-- schedules with a2 and b1 as early and as late as can be
abbrev early : List ℤ
early = pos 0 ∷ pos 0 ∷ pos 30 ∷ pos 30 ∷ pos 40 ∷ []

abbrev late : List ℤ
late = pos 0 ∷ pos 20 ∷ pos 60 ∷ pos 65 ∷ pos 75 ∷ []

-- they keep each arc of a list that passes a test
abbrev is_kept : List ℤ → Constraint → Bool
is_kept ts a = int_le (time_at ts a.to.0 -ℤ time_at ts a.from.0) a.bound

keeps_of : (arcs : List Constraint) (ts : List ℤ) → list_all (is_kept ts) arcs ≡ true → KeepsArcs arcs ts
keeps_of arcs ts h n lt = let kept = AllPass-from_list_all (is_kept ts) arcs h n no_arc lt in grind (arith, ints)

early_keeps : KeepsArcs meeting early
early_keeps = keeps_of meeting early refl

late_keeps : KeepsArcs meeting late
late_keeps = keeps_of meeting late refl

early_satisfies : Satisfies (point_count handover) (arcs_of handover) early
early_satisfies = record { one_each = refl; first = refl; keeps = keeps_of (arcs_of handover) early refl }

late_satisfies : Satisfies (point_count handover) (arcs_of handover) late
late_satisfies = record { one_each = refl; first = refl; keeps = keeps_of (arcs_of handover) late refl }

-- the least bounds of a2 and b1 with z, by walks of arcs of the network
a2_latest : IsLeast 0 2 (pos 60)
a2_latest = record {
  walk = 8 ∷ 9 ∷ [];
  is_walk = (omega arith, refl, (omega arith, refl, refl));
  weighs = refl;
  times = late;
  satisfies = late_satisfies;
  attains = refl;
}

a2_earliest : IsLeast 2 0 (neg_ℤ (pos 30))
a2_earliest = record {
  walk = 10 ∷ 1 ∷ [];
  is_walk = (omega arith, refl, (omega arith, refl, refl));
  weighs = refl;
  times = early;
  satisfies = early_satisfies;
  attains = refl;
}

b1_latest : IsLeast 0 3 (pos 65)
b1_latest = record {
  walk = 8 ∷ 9 ∷ 11 ∷ [];
  is_walk = (omega arith, refl, (omega arith, refl, (omega arith, refl, refl)));
  weighs = refl;
  times = late;
  satisfies = late_satisfies;
  attains = refl;
}

b1_earliest : IsLeast 3 0 (neg_ℤ (pos 30))
b1_earliest = record {
  walk = 12 ∷ 10 ∷ 1 ∷ [];
  is_walk = (omega arith, refl, (omega arith, refl, (omega arith, refl, refl)));
  weighs = refl;
  times = early;
  satisfies = early_satisfies;
  attains = refl;
}

-- the least weight of the walks from i to j, from a walk and a schedule
least_of : (ts : List ℤ) → KeepsArcs meeting ts → (i j : ℕ) (b : ℤ) (w : List Constraint) → IsInner every meeting i j w → arcs_weight w ≡ b
    → (time_at ts j -ℤ time_at ts i) ≡ b → IsInnerLeast every meeting i j (Some b)
least_of ts keeps i j b w is weighs apart =
    ((w, is, weighs), λ v h. let low = inner_bounds meeting ts keeps every i j v h in omega (arith, ints))

-- which points are joined
abbrev IsOne : ℕ → Type 0
IsOne p = (p ≡ 0) ⊎ (p ≡ 2) ⊎ (p ≡ 3)

one_of : (p : ℕ) → is_met p ≡ true → IsOne p
one_of p h =
    elim (or_cases ((p == 0) || (p == 2)) (p == 3) h) [
      | inl t ↦ elim (or_cases (p == 0) (p == 2) t) [
        | inl z ↦ (let e : p ≡ 0 = grind (arith, nat_tests) in inl e)
        | inr a ↦ (let e : p ≡ 2 = grind (arith, nat_tests) in inr (inl e))
      ]
      | inr b ↦ (let e : p ≡ 3 = grind (arith, nat_tests) in inr (inr e))
    ]

joined_parts : (i j : ℕ) → joined i j ≡ true → (is_met i ≡ true) × (is_met j ≡ true) × (i ≢ j)
joined_parts i j h =
    let outer = and_parts (is_met i && is_met j) (not (i == j)) h in
    let parts = and_parts (is_met i) (is_met j) outer.0 in
    let off = outer.1 in
    (parts.0, parts.1, λ e. grind (arith, nat_tests))

joined_of : (i j : ℕ) → is_met i ≡ true → is_met j ≡ true → i ≢ j → joined i j ≡ true
joined_of i j p q apart = let off : (i == j) ≡ false = grind (arith, nat_tests) in (λ t. p t && q t && not (off t))

-- what holds of the six ordered pairs holds of all joined points
by_pairs : (P : ℕ → ℕ → Type 0) → P 0 2 → P 0 3 → P 2 0 → P 2 3 → P 3 0 → P 3 2 → (i j : ℕ) → IsOne i → IsOne j → i ≢ j → P i j
by_pairs P za zb az ab bz ba i j (inl e) (inl f) apart = absurd (apart (e ∙ sym f))
by_pairs P za zb az ab bz ba i j (inl e) (inr (inl f)) apart = subst (λ (x : ℕ). P x j) (sym e) (subst (P 0) (sym f) za)
by_pairs P za zb az ab bz ba i j (inl e) (inr (inr f)) apart = subst (λ (x : ℕ). P x j) (sym e) (subst (P 0) (sym f) zb)
by_pairs P za zb az ab bz ba i j (inr (inl e)) (inl f) apart = subst (λ (x : ℕ). P x j) (sym e) (subst (P 2) (sym f) az)
by_pairs P za zb az ab bz ba i j (inr (inl e)) (inr (inl f)) apart = absurd (apart (e ∙ sym f))
by_pairs P za zb az ab bz ba i j (inr (inl e)) (inr (inr f)) apart = subst (λ (x : ℕ). P x j) (sym e) (subst (P 2) (sym f) ab)
by_pairs P za zb az ab bz ba i j (inr (inr e)) (inl f) apart = subst (λ (x : ℕ). P x j) (sym e) (subst (P 3) (sym f) bz)
by_pairs P za zb az ab bz ba i j (inr (inr e)) (inr (inl f)) apart = subst (λ (x : ℕ). P x j) (sym e) (subst (P 3) (sym f) ba)
by_pairs P za zb az ab bz ba i j (inr (inr e)) (inr (inr f)) apart = absurd (apart (e ∙ sym f))

joined_holds : (P : ℕ → ℕ → Type 0) → P 0 2 → P 0 3 → P 2 0 → P 2 3 → P 3 0 → P 3 2 → (i j : ℕ) → joined i j ≡ true → P i j
joined_holds P za zb az ab bz ba i j h =
    let parts = joined_parts i j h in
    by_pairs P za zb az ab bz ba i j (one_of i parts.0) (one_of j parts.1) parts.2

-- the walk from z to b1 and that from b1 to z pass a2
finals : AreFinals meeting joined final
finals = record {
  turned = λ i j h. let parts = joined_parts i j h in joined_of j i parts.1 parts.0 (λ e. parts.2 (sym e));
  ends = λ a c. all_at (λ x. joined x.from.0 x.to.0 ≡ true) meeting a
      (refl, (refl, (refl, (refl, (refl, (refl, (refl, (refl, (refl, (refl, tt)))))))))) c;
  least = joined_holds (λ i j. IsInnerLeast every meeting i j (Some (final i j)))
      (least_of late late_keeps 0 2 (pos 60) (arc 0 2 (pos 60) ∷ []) ((6, omega arith, refl), refl, refl) refl refl)
      (least_of late late_keeps 0 3 (pos 65) (arc 0 2 (pos 60) ∷ arc 2 3 (pos 5) ∷ [])
      ((6, omega arith, refl), refl, (refl, (0, omega arith, refl), refl, refl)) refl refl)
      (least_of early early_keeps 2 0 (neg_ℤ (pos 30)) (arc 2 0 (neg_ℤ (pos 30)) ∷ []) ((7, omega arith, refl), refl, refl) refl refl)
      (least_of late late_keeps 2 3 (pos 5) (arc 2 3 (pos 5) ∷ []) ((0, omega arith, refl), refl, refl) refl refl)
      (least_of early early_keeps 3 0 (neg_ℤ (pos 30)) (arc 3 2 (pos 0) ∷ arc 2 0 (neg_ℤ (pos 30)) ∷ [])
      ((1, omega arith, refl), refl, (refl, (7, omega arith, refl), refl, refl)) refl refl)
      (least_of early early_keeps 3 2 (pos 0) (arc 3 2 (pos 0) ∷ []) ((1, omega arith, refl), refl, refl) refl refl);
}

keeps : KeepsFinals joined final is_met times
keeps i j set_i set_j h =
    joined_holds (λ i j. (times j -ℤ times i) ≤ℤ final i j) (omega (arith, ints)) (omega (arith, ints)) (omega (arith, ints)) (omega (arith, ints))
    (omega (arith, ints)) (omega (arith, ints)) i j h

-- the windows
first_window : LeavesWindow final times 3 (λ j. j ≡ 0) (pos 30) (pos 65)
first_window = record {
  low_met = (0, refl, refl);
  low_greatest = λ j e. let same : (times j -ℤ final 3 j) ≡ pos 30 = ap (λ x. times x -ℤ final 3 x) e in omega (arith, ints);
  high_met = (0, refl, refl);
  high_least = λ j e. let same : (times j +ℤ final j 3) ≡ pos 65 = ap (λ x. times x +ℤ final x 3) e in omega (arith, ints);
}

second_window : LeavesWindow final times 2 (λ j. (j ≡ 0) ⊎ (j ≡ 3)) (pos 30) (pos 30)
second_window = record {
  low_met = (0, inl refl, refl);
  low_greatest = λ j n. elim n [
    | inl e ↦ (let same : (times j -ℤ final 2 j) ≡ pos 30 = ap (λ x. times x -ℤ final 2 x) e in omega (arith, ints))
    | inr e ↦ (let same : (times j -ℤ final 2 j) ≡ pos 25 = ap (λ x. times x -ℤ final 2 x) e in omega (arith, ints))
  ];
  high_met = (3, inr refl, refl);
  high_least = λ j n. elim n [
    | inl e ↦ (let same : (times j +ℤ final j 2) ≡ pos 60 = ap (λ x. times x +ℤ final x 2) e in omega (arith, ints))
    | inr e ↦ (let same : (times j +ℤ final j 2) ≡ pos 30 = ap (λ x. times x +ℤ final x 2) e in omega (arith, ints))
  ];
}

-- each widening, from the single times or from the boxes
abbrev LeavesLow : Ends → ℕ → Constraint → Type 0
LeavesLow e x a = a.from.0 ≡ x → (e.hi a.to.0 -ℤ a.bound) ≤ℤ pos 30

a2_low : (e : Ends) → AllByRecursion (LeavesLow e 2) externals → e.lo 2 ≡ pos 30 → WidensLow final externals 2 e e
a2_low e all at = record {
  widest = record { bound = omega (arith, ints); arcs = λ a c from. let l = all_at (LeavesLow e 2) externals a all c from in omega (arith, ints); met = inl at };
  others = λ p apart. refl;
  highs = λ p. refl;
}

b1_low : (e : Ends) → AllByRecursion (LeavesLow e 3) externals → e.lo 3 ≡ pos 30 → WidensLow final externals 3 e e
b1_low e all at = record {
  widest = record { bound = omega (arith, ints); arcs = λ a c from. let l = all_at (LeavesLow e 3) externals a all c from in omega (arith, ints); met = inl at };
  others = λ p apart. refl;
  highs = λ p. refl;
}

abbrev LeavesHigh : ℕ → ℤ → Constraint → Type 0
LeavesHigh y end a = a.to.0 ≡ y → end ≤ℤ (times a.from.0 +ℤ a.bound)

a2_high : (hi : ℕ → ℤ) → hi 2 ≡ pos 30 → WidensHigh final externals 2 (record { lo = times; hi = hi }) (record { lo = times; hi = hi })
a2_high hi at = record {
  widest = record {
    bound = omega (arith, ints);
    arcs = λ a c to. let l = all_at (LeavesHigh 2 (pos 30)) externals a ((λ e. omega (arith, ints)), ((λ e. omega (arith, ints)), tt)) c to in omega (arith, ints);
    met = inr (arc 3 2 (pos 0), (1, omega arith, refl), refl, at);
  };
  others = λ p apart. refl;
  lows = λ p. refl;
}

b1_high : WidensHigh final externals 3 single boxes
b1_high = record {
  widest = record {
    bound = omega (arith, ints);
    arcs = λ a c to. all_at (LeavesHigh 3 (pos 35)) externals a ((λ e. omega (arith, ints)), ((λ e. absurd (omega arith)), tt)) c to;
    met = inr (arc 2 3 (pos 5), (0, omega arith, refl), refl, refl);
  };
  others = λ p apart. let off : (p == 3) ≡ false = grind (arith, nat_tests) in rw off refl;
  lows = λ p. refl;
}

widened : WidensAll final externals by_number single boxes
widened = (
  single,
  a2_low single ((λ e. omega (arith, ints)), ((λ e. omega (arith, ints)), tt)) refl,
  (
    single,
    a2_high times refl,
    (single, b1_low single ((λ e. omega (arith, ints)), ((λ e. omega (arith, ints)), tt)) refl, (boxes, b1_high, refl)),
  ),
)

widened_turned : WidensAll final externals turned single boxes
widened_turned = (
  boxes,
  b1_high,
  (
    boxes,
    b1_low boxes ((λ e. omega (arith, ints)), ((λ e. omega (arith, ints)), tt)) refl,
    (boxes, a2_high boxes.hi refl, (boxes, a2_low boxes ((λ e. omega (arith, ints)), ((λ e. omega (arith, ints)), tt)) refl, refl)),
  ),
)

-- a2 and b1 have boxes
abbrev has_box : ℕ → Bool
has_box p = (p == 2) || (p == 3)

boxed : (k : ℕ) → has_box k ≡ true → (is_met k ≡ true) × (joined k 0 ≡ true)
boxed k h =
    elim (or_cases (k == 2) (k == 3) h) [
      | inl t ↦ (let e : k ≡ 2 = grind (arith, nat_tests) in (ap is_met e, ap (λ x. joined x 0) e))
      | inr t ↦ (let e : k ≡ 3 = grind (arith, nat_tests) in (ap is_met e, ap (λ x. joined x 0) e))
    ]

box_ends : HasBoxEnds has_box externals
box_ends a c = all_at (λ x. (has_box x.from.0 ≡ true) × (has_box x.to.0 ≡ true)) externals a ((refl, refl), ((refl, refl), tt)) c

start : AreBoxes final externals has_box times single
start = times_boxes meeting joined final finals is_met times refl refl keeps externals (meeting_is handover (ann_entries ∷ bob_entries ∷ [])).externals
    has_box boxed single (λ k h. (refl, refl))

are_boxes : AreBoxes final externals has_box times boxes
are_boxes = all_keep final externals has_box times box_ends by_number (refl, (refl, (refl, (refl, tt)))) single boxes start widened

tight : AllByRecursion (IsTightEnd final externals boxes) by_number
tight = all_tight final externals has_box times box_ends by_number (refl, (refl, (refl, (refl, tt)))) single boxes start widened

-- only a2 and b1 are shared
shared_is : (k : ℕ) → is_shared handover k ≡ true → (k ≡ 2) ⊎ (k ≡ 3)
shared_is k h =
    ⊎_elim
    (λ (a2 : k ≡ 2). inl a2)
    (λ (other : k ≢ 2). inr (grind (arith, nat_tests)))
    (cases_eq k 2)

-- what holds of both holds of each shared point
of_shared : (P : ℕ → Type 0) → P 2 → P 3 → (k : ℕ) → is_shared handover k ≡ true → P k
of_shared P a2 b1 k h = elim (shared_is k h) [ inl e ↦ subst P (sym e) a2 | inr e ↦ subst P (sym e) b1 ]

-- each agent has a schedule of its decoupled network
local : (agent : ℕ) → agent < 2 → IsConsistent (point_count handover) (decoupled_arcs handover agent boxes)
local zero known = (early, record { one_each = refl; first = refl; keeps = keeps_of (decoupled_arcs handover 0 boxes) early refl })
local (suc zero) known = (early, record { one_each = refl; first = refl; keeps = keeps_of (decoupled_arcs handover 1 boxes) early refl })
local (suc (suc n)) known = absurd (omega arith)

decoupling : IsDecoupling handover boxes
decoupling = record {
  low = of_shared (λ k. (b : ℤ) → IsLeast k 0 b → neg_ℤ b ≤ℤ boxes.lo k)
      (λ b is. let same = least_bound_unique (arcs_of handover) (point_count handover) 2 0 b (neg_ℤ (pos 30)) is a2_earliest in omega (arith, ints))
      (λ b is. let same = least_bound_unique (arcs_of handover) (point_count handover) 3 0 b (neg_ℤ (pos 30)) is b1_earliest in omega (arith, ints));
  ordered = of_shared (λ k. boxes.lo k ≤ℤ boxes.hi k) (omega (arith, ints)) (omega (arith, ints));
  high = of_shared (λ k. (b : ℤ) → IsLeast 0 k b → boxes.hi k ≤ℤ b)
      (λ b is. let same = least_bound_unique (arcs_of handover) (point_count handover) 0 2 b (pos 60) is a2_latest in omega (arith, ints))
      (λ b is. let same = least_bound_unique (arcs_of handover) (point_count handover) 0 3 b (pos 65) is b1_latest in omega (arith, ints));
  apart = λ a c. let ends = box_ends a c in are_boxes.apart a c ends.0 ends.1;
  consistent = local;
}

pub handover_holds : HandoverBoxes
handover_holds = record {
  a2_latest = a2_latest;
  a2_earliest = a2_earliest;
  b1_latest = b1_latest;
  b1_earliest = b1_earliest;
  meets = meeting_is handover (ann_entries ∷ bob_entries ∷ []);
  finals = finals;
  first_window = first_window;
  first_time = refl;
  second_window = second_window;
  second_time = refl;
  keeps = keeps;
  widened = widened;
  widened_turned = widened_turned;
  are_boxes = are_boxes;
  tight = tight;
  decoupling = decoupling;
  a2_low_blocker = refl;
  a2_high_blocker = high_blocked handover final boxes 2 (λ (e : pos 30 ≡ pos 60). omega (arith, ints)) (omega arith);
  b1_low_blocker = refl;
  b1_high_blocker = high_blocked handover final boxes 3 (λ (e : pos 35 ≡ pos 65). omega (arith, ints)) (omega arith);
}
