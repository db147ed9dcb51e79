-- Boxes, and how their ends are widened: times_boxes, widest_there, widening_keeps, widening_grows, widening_tight, tight_stays, all_keep,
-- all_tight, box_range. A widened end has room: every external arc kept the end that it had. An end that met an external arc stays tight when the
-- arc's other end is widened, since that end could not move.
use Rattle.std.proofs.Common.{◌≡◌, ◌≢◌, ℕ, Bool, true, false, List, [], ◌∷◌, refl, sym, ap, subst, ◌∙◌, arith, inl, inr, ⊎_elim}
use Rattle.std.specs.Prelude.{ℤ, pos, neg_ℤ, ◌+ℤ◌, ◌-ℤ◌, ◌≤ℤ◌, ◌==◌, if◌then◌else◌, Contains}
use Rattle.std.specs.List.{AllByRecursion}
use Rattle.std.proofs.lemmas.Int.{ints, by_lt_z}
use Rattle.std.proofs.lemmas.Bool.{cases_eq}
use Rattle.std.proofs.lemmas.Bool.Decides.{nat_tests}
use Rattle.stn_model.specs.declared.ids.Constraint.{Constraint}
use Rattle.decoupling_facts.specs.FinalBounds.{AreFinals, KeepsFinals}
use Rattle.decoupling_facts.specs.Boxes.{Ends, AreBoxes, HasBoxEnds, IsMetHigh, IsMetLow, IsTightEnd, IsWidestHigh, IsWidestLow, WidensHigh, WidensLow, Widens, WidensAll}
use Rattle.decoupling_facts.proofs.Lists.{contains_cases, contains_first, contains_rest}
use Rattle.decoupling_facts.proofs.FinalBounds.{finals_obey}
use Rattle.decoupling_facts.proofs.Windows.{arcs_kept, times_within}

-- times that keep the final bounds are boxes
pub times_boxes : (arcs : List Constraint) (joined : ℕ → ℕ → Bool) (final : ℕ → ℕ → ℤ) → AreFinals arcs joined final
    → (is_set : ℕ → Bool) (value : ℕ → ℤ) → value 0 ≡ pos 0 → is_set 0 ≡ true → KeepsFinals joined final is_set value
    → (externals : List Constraint) → ((a : Constraint) → Contains externals a → Contains arcs a)
    → (has_box : ℕ → Bool) → ((k : ℕ) → has_box k ≡ true → (is_set k ≡ true) × (joined k 0 ≡ true))
    → (e : Ends) → ((k : ℕ) → has_box k ≡ true → (e.lo k ≡ value k) × (e.hi k ≡ value k)) → AreBoxes final externals has_box value e
times_boxes arcs joined final finals is_set value first zero keeps externals among has_box boxed e at =
    let within = λ (k : ℕ) (h : has_box k ≡ true). times_within arcs joined final finals is_set value keeps first zero k (boxed k h).0 (boxed k h).1 in
    record {
      low = λ k h. let w = (within k h).0 in let is = (at k h).0 in omega (arith, ints);
      low_value = λ k h. let is = (at k h).0 in omega (arith, ints);
      value_high = λ k h. let is = (at k h).1 in omega (arith, ints);
      high = λ k h. let w = (within k h).1 in let is = (at k h).1 in omega (arith, ints);
      apart = λ a c from to.
          let v = arcs_kept arcs joined final finals is_set value keeps a (among a c) (boxed a.from.0 from).0 (boxed a.to.0 to).0 in
          let x = (at a.from.0 from).0 in
          let y = (at a.to.0 to).1 in
          omega (arith, ints);
    }

-- the widest ends are there: each arc may lower the high end, and raise the low one
widest_high : (final : ℕ → ℕ → ℤ) (lo : ℕ → ℤ) (y : ℕ) (externals : List Constraint) → (end : ℤ) × IsWidestHigh final externals lo y end
widest_high final lo y [] = (final 0 y, record { bound = omega (arith, ints); arcs = λ a c. absurd (let low = c.1 in omega arith); met = inl refl })
widest_high final lo y (a ∷ externals) =
    let rest = widest_high final lo y externals in
    let end = rest.0 in
    let w = rest.1 in
    let more : IsMetHigh final externals lo y end → IsMetHigh final (a ∷ externals) lo y end = λ m. elim m [
      | inl e ↦ inl e
      | inr r ↦ inr (r.0, contains_rest a r.0 externals r.1, r.2, r.3)
    ] in
    ⊎_elim
    (λ (here : a.to.0 ≡ y).
    by_lt_z (lo a.from.0 +ℤ a.bound) end
    (λ lt. (
      lo a.from.0 +ℤ a.bound,
      record {
        bound = let b = w.bound in omega (arith, ints);
        arcs = λ x c to. elim (contains_cases a x externals c) [
          | inl e ↦ (let same : (lo a.from.0 +ℤ a.bound) ≡ (lo x.from.0 +ℤ x.bound) = ap (λ z. lo z.from.0 +ℤ z.bound) e in omega (arith, ints))
          | inr d ↦ (let b = w.arcs x d to in omega (arith, ints))
        ];
        met = inr (a, contains_first a externals, here, refl);
      },
    ))
    (λ le. (
      end,
      record {
        bound = w.bound;
        arcs = λ x c to. elim (contains_cases a x externals c) [
          | inl e ↦ (let same : (lo a.from.0 +ℤ a.bound) ≡ (lo x.from.0 +ℤ x.bound) = ap (λ z. lo z.from.0 +ℤ z.bound) e in omega (arith, ints))
          | inr d ↦ w.arcs x d to
        ];
        met = more w.met;
      },
    )))
    (λ (other : a.to.0 ≢ y). (
      end,
      record {
        bound = w.bound;
        arcs = λ x c to. elim (contains_cases a x externals c) [
          | inl e ↦ absurd (other (ap (λ z. z.to.0) e ∙ to))
          | inr d ↦ w.arcs x d to
        ];
        met = more w.met;
      },
    ))
    (cases_eq a.to.0 y)

widest_low : (final : ℕ → ℕ → ℤ) (hi : ℕ → ℤ) (x : ℕ) (externals : List Constraint) → (end : ℤ) × IsWidestLow final externals hi x end
widest_low final hi x [] = (neg_ℤ (final x 0), record { bound = omega (arith, ints); arcs = λ a c. absurd (let low = c.1 in omega arith); met = inl refl })
widest_low final hi x (a ∷ externals) =
    let rest = widest_low final hi x externals in
    let end = rest.0 in
    let w = rest.1 in
    let more : IsMetLow final externals hi x end → IsMetLow final (a ∷ externals) hi x end = λ m. elim m [
      | inl e ↦ inl e
      | inr r ↦ inr (r.0, contains_rest a r.0 externals r.1, r.2, r.3)
    ] in
    ⊎_elim
    (λ (here : a.from.0 ≡ x).
    by_lt_z end (hi a.to.0 -ℤ a.bound)
    (λ lt. (
      hi a.to.0 -ℤ a.bound,
      record {
        bound = let b = w.bound in omega (arith, ints);
        arcs = λ y c from. elim (contains_cases a y externals c) [
          | inl e ↦ (let same : (hi a.to.0 -ℤ a.bound) ≡ (hi y.to.0 -ℤ y.bound) = ap (λ z. hi z.to.0 -ℤ z.bound) e in omega (arith, ints))
          | inr d ↦ (let b = w.arcs y d from in omega (arith, ints))
        ];
        met = inr (a, contains_first a externals, here, refl);
      },
    ))
    (λ le. (
      end,
      record {
        bound = w.bound;
        arcs = λ y c from. elim (contains_cases a y externals c) [
          | inl e ↦ (let same : (hi a.to.0 -ℤ a.bound) ≡ (hi y.to.0 -ℤ y.bound) = ap (λ z. hi z.to.0 -ℤ z.bound) e in omega (arith, ints))
          | inr d ↦ w.arcs y d from
        ];
        met = more w.met;
      },
    )))
    (λ (other : a.from.0 ≢ x). (
      end,
      record {
        bound = w.bound;
        arcs = λ y c from. elim (contains_cases a y externals c) [
          | inl e ↦ absurd (other (ap (λ z. z.from.0) e ∙ from))
          | inr d ↦ w.arcs y d from
        ];
        met = more w.met;
      },
    ))
    (cases_eq a.from.0 x)

-- f but for v at k
abbrev put : ℕ → ℤ → (ℕ → ℤ) → ℕ → ℤ
put k v f p = if p == k then v else f p

put_here : (k : ℕ) (v : ℤ) (f : ℕ → ℤ) → put k v f k ≡ v
put_here k v f = let same : (k == k) ≡ true = grind (arith, nat_tests) in rw same refl

put_others : (k : ℕ) (v : ℤ) (f : ℕ → ℤ) (p : ℕ) → p ≢ k → put k v f p ≡ f p
put_others k v f p apart = let off : (p == k) ≡ false = grind (arith, nat_tests) in rw off refl

pub widest_there : (final : ℕ → ℕ → ℤ) (externals : List Constraint) (w : ℕ × Bool) (e : Ends) → (f : Ends) × Widens final externals w e f
widest_there final externals (k, true) e =
    let w = widest_high final e.lo k externals in (
      record { lo = e.lo; hi = put k w.0 e.hi },
      record { widest = subst (IsWidestHigh final externals e.lo k) (sym (put_here k w.0 e.hi)) w.1; others = put_others k w.0 e.hi; lows = λ p. refl },
    )
widest_there final externals (k, false) e =
    let w = widest_low final e.hi k externals in (
      record { lo = put k w.0 e.lo; hi = e.hi },
      record { widest = subst (IsWidestLow final externals e.hi k) (sym (put_here k w.0 e.lo)) w.1; others = put_others k w.0 e.lo; highs = λ p. refl },
    )

module _ (final : ℕ → ℕ → ℤ) (externals : List Constraint) where
  module _ (has_box : ℕ → Bool) (value : ℕ → ℤ) (ends : HasBoxEnds has_box externals) (e f : Ends) (boxes : AreBoxes final externals has_box value e)
      (k : ℕ) (boxed : has_box k ≡ true) where
    -- each number of which the high end becomes the least is at least what it was
    high_more : WidensHigh final externals k e f → e.hi k ≤ℤ f.hi k
    high_more w =
        elim w.widest.met [
          | inl is ↦ (let h = boxes.high k boxed in omega (arith, ints))
          | inr r ↦
              (let a = r.0 in
              let h = boxes.apart a r.1 (ends a r.1).0 (ends a r.1).1 in
              let same : e.hi a.to.0 ≡ e.hi k = ap e.hi r.2 in
              let is = r.3 in
              omega (arith, ints))
        ]

    low_less : WidensLow final externals k e f → f.lo k ≤ℤ e.lo k
    low_less w =
        elim w.widest.met [
          | inl is ↦ (let h = boxes.low k boxed in omega (arith, ints))
          | inr r ↦
              (let a = r.0 in
              let h = boxes.apart a r.1 (ends a r.1).0 (ends a r.1).1 in
              let same : e.lo a.from.0 ≡ e.lo k = ap e.lo r.2 in
              let is = r.3 in
              omega (arith, ints))
        ]

    high_keeps : WidensHigh final externals k e f → AreBoxes final externals has_box value f
    high_keeps w =
        let more = high_more w in
        record {
          low = λ p h. let l = w.lows p in let was = boxes.low p h in omega (arith, ints);
          low_value = λ p h. let l = w.lows p in let was = boxes.low_value p h in omega (arith, ints);
          value_high = λ p h. ⊎_elim
              (λ (is : p ≡ k).
              let v : value p ≡ value k = ap value is in
              let n : f.hi p ≡ f.hi k = ap f.hi is in
              let was = boxes.value_high k boxed in
              omega (arith, ints))
              (λ (other : p ≢ k). let n = w.others p other in let was = boxes.value_high p h in omega (arith, ints))
              (cases_eq p k);
          high = λ p h. ⊎_elim
              (λ (is : p ≡ k).
              let n : f.hi p ≡ f.hi k = ap f.hi is in
              let b : final 0 p ≡ final 0 k = ap (final 0) is in
              let top = w.widest.bound in
              omega (arith, ints))
              (λ (other : p ≢ k). let n = w.others p other in let was = boxes.high p h in omega (arith, ints))
              (cases_eq p k);
          apart = λ a c from to.
              let l = w.lows a.from.0 in
              ⊎_elim
              (λ (is : a.to.0 ≡ k).
              let n : f.hi a.to.0 ≡ f.hi k = ap f.hi is in
              let top = w.widest.arcs a c is in
              omega (arith, ints))
              (λ (other : a.to.0 ≢ k). let n = w.others a.to.0 other in let was = boxes.apart a c from to in omega (arith, ints))
              (cases_eq a.to.0 k);
        }

    low_keeps : WidensLow final externals k e f → AreBoxes final externals has_box value f
    low_keeps w =
        let less = low_less w in
        record {
          low = λ p h. ⊎_elim
              (λ (is : p ≡ k).
              let n : f.lo p ≡ f.lo k = ap f.lo is in
              let b : final p 0 ≡ final k 0 = ap (λ x. final x 0) is in
              let bottom = w.widest.bound in
              omega (arith, ints))
              (λ (other : p ≢ k). let n = w.others p other in let was = boxes.low p h in omega (arith, ints))
              (cases_eq p k);
          low_value = λ p h. ⊎_elim
              (λ (is : p ≡ k).
              let v : value p ≡ value k = ap value is in
              let n : f.lo p ≡ f.lo k = ap f.lo is in
              let was = boxes.low_value k boxed in
              omega (arith, ints))
              (λ (other : p ≢ k). let n = w.others p other in let was = boxes.low_value p h in omega (arith, ints))
              (cases_eq p k);
          value_high = λ p h. let l = w.highs p in let was = boxes.value_high p h in omega (arith, ints);
          high = λ p h. let l = w.highs p in let was = boxes.high p h in omega (arith, ints);
          apart = λ a c from to.
              let l = w.highs a.to.0 in
              ⊎_elim
              (λ (is : a.from.0 ≡ k).
              let n : f.lo a.from.0 ≡ f.lo k = ap f.lo is in
              let bottom = w.widest.arcs a c is in
              omega (arith, ints))
              (λ (other : a.from.0 ≢ k). let n = w.others a.from.0 other in let was = boxes.apart a c from to in omega (arith, ints))
              (cases_eq a.from.0 k);
        }

    -- A low end met by hi(y) - c, where the high end of y is widened: hi(y) is then at most lo(x) + c, which it was, and not less than it was.
    high_same : WidensHigh final externals k e f → (x : ℕ) (a : Constraint) → Contains externals a → a.from.0 ≡ x → e.lo x ≡ e.hi a.to.0 -ℤ a.bound
        → f.hi a.to.0 ≡ e.hi a.to.0
    high_same w x a c from is =
        ⊎_elim
        (λ (at : a.to.0 ≡ k).
        let more = high_more w in
        let top = w.widest.arcs a c at in
        let n : f.hi a.to.0 ≡ f.hi k = ap f.hi at in
        let was : e.hi a.to.0 ≡ e.hi k = ap e.hi at in
        let l : e.lo a.from.0 ≡ e.lo x = ap e.lo from in
        omega (arith, ints))
        (λ (other : a.to.0 ≢ k). w.others a.to.0 other)
        (cases_eq a.to.0 k)

    low_same : WidensLow final externals k e f → (y : ℕ) (a : Constraint) → Contains externals a → a.to.0 ≡ y → e.hi y ≡ e.lo a.from.0 +ℤ a.bound
        → f.lo a.from.0 ≡ e.lo a.from.0
    low_same w y a c to is =
        ⊎_elim
        (λ (at : a.from.0 ≡ k).
        let less = low_less w in
        let bottom = w.widest.arcs a c at in
        let n : f.lo a.from.0 ≡ f.lo k = ap f.lo at in
        let was : e.lo a.from.0 ≡ e.lo k = ap e.lo at in
        let h : e.hi a.to.0 ≡ e.hi y = ap e.hi to in
        omega (arith, ints))
        (λ (other : a.from.0 ≢ k). w.others a.from.0 other)
        (cases_eq a.from.0 k)

  -- an end is met as before where the ends on the other side are the same
  met_high-same : (lo now : ℕ → ℤ) (y : ℕ) (end : ℤ) → ((p : ℕ) → now p ≡ lo p) → IsMetHigh final externals lo y end → IsMetHigh final externals now y end
  met_high-same lo now y end same (inl is) = inl is
  met_high-same lo now y end same (inr (a, c, to, is)) = inr (a, c, to, (let s = same a.from.0 in omega (arith, ints)))

  met_low-same : (hi now : ℕ → ℤ) (x : ℕ) (end : ℤ) → ((p : ℕ) → now p ≡ hi p) → IsMetLow final externals hi x end → IsMetLow final externals now x end
  met_low-same hi now x end same (inl is) = inl is
  met_low-same hi now x end same (inr (a, c, from, is)) = inr (a, c, from, (let s = same a.to.0 in omega (arith, ints)))

  -- a widened end is tight
  pub widening_tight : (w : ℕ × Bool) (e f : Ends) → Widens final externals w e f → IsTightEnd final externals f w
  widening_tight (k, true) e f w = met_high-same e.lo f.lo k (f.hi k) w.lows w.widest.met
  widening_tight (k, false) e f w = met_low-same e.hi f.hi k (f.lo k) w.highs w.widest.met

  module _ (has_box : ℕ → Bool) (value : ℕ → ℤ) (ends : HasBoxEnds has_box externals) where
    -- it leaves boxes
    pub widening_keeps : (w : ℕ × Bool) → has_box w.0 ≡ true → (e f : Ends) → AreBoxes final externals has_box value e → Widens final externals w e f
        → AreBoxes final externals has_box value f
    widening_keeps (k, true) boxed e f boxes w = high_keeps has_box value ends e f boxes k boxed w
    widening_keeps (k, false) boxed e f boxes w = low_keeps has_box value ends e f boxes k boxed w

    -- which have what they had
    pub widening_grows : (w : ℕ × Bool) → has_box w.0 ≡ true → (e f : Ends) → AreBoxes final externals has_box value e → Widens final externals w e f
        → (p : ℕ) → (f.lo p ≤ℤ e.lo p) × (e.hi p ≤ℤ f.hi p)
    widening_grows (k, true) boxed e f boxes w p =
        let l = w.lows p in
        ⊎_elim
        (λ (is : p ≡ k).
        let more = high_more has_box value ends e f boxes k boxed w in
        let n : f.hi p ≡ f.hi k = ap f.hi is in
        let was : e.hi p ≡ e.hi k = ap e.hi is in
        (omega (arith, ints), omega (arith, ints)))
        (λ (other : p ≢ k). let n = w.others p other in (omega (arith, ints), omega (arith, ints)))
        (cases_eq p k)
    widening_grows (k, false) boxed e f boxes w p =
        let l = w.highs p in
        ⊎_elim
        (λ (is : p ≡ k).
        let less = low_less has_box value ends e f boxes k boxed w in
        let n : f.lo p ≡ f.lo k = ap f.lo is in
        let was : e.lo p ≡ e.lo k = ap e.lo is in
        (omega (arith, ints), omega (arith, ints)))
        (λ (other : p ≢ k). let n = w.others p other in (omega (arith, ints), omega (arith, ints)))
        (cases_eq p k)

    -- the same end again is tight by its own step, and every other one stays so
    pub tight_stays : (w : ℕ × Bool) → has_box w.0 ≡ true → (e f : Ends) → AreBoxes final externals has_box value e → Widens final externals w e f
        → (v : ℕ × Bool) → IsTightEnd final externals e v → IsTightEnd final externals f v
    tight_stays (k, true) boxed e f boxes w (p, true) tight =
        ⊎_elim
        (λ (same : p ≡ k). subst (λ (x : ℕ). IsTightEnd final externals f (x, true)) (sym same) (widening_tight (k, true) e f w))
        (λ (other : p ≢ k).
        subst (IsMetHigh final externals f.lo p) (sym (w.others p other)) (met_high-same e.lo f.lo p (e.hi p) w.lows tight))
        (cases_eq p k)
    tight_stays (k, true) boxed e f boxes w (p, false) (inl is) = inl (w.lows p ∙ is)
    tight_stays (k, true) boxed e f boxes w (p, false) (inr (a, c, from, is)) =
        let same = high_same has_box value ends e f boxes k boxed w p a c from is in
        let l = w.lows p in
        inr (a, c, from, omega (arith, ints))
    tight_stays (k, false) boxed e f boxes w (p, true) (inl is) = inl (w.highs p ∙ is)
    tight_stays (k, false) boxed e f boxes w (p, true) (inr (a, c, to, is)) =
        let same = low_same has_box value ends e f boxes k boxed w p a c to is in
        let l = w.highs p in
        inr (a, c, to, omega (arith, ints))
    tight_stays (k, false) boxed e f boxes w (p, false) tight =
        ⊎_elim
        (λ (same : p ≡ k). subst (λ (x : ℕ). IsTightEnd final externals f (x, false)) (sym same) (widening_tight (k, false) e f w))
        (λ (other : p ≢ k).
        subst (IsMetLow final externals f.hi p) (sym (w.others p other)) (met_low-same e.hi f.hi p (e.lo p) w.highs tight))
        (cases_eq p k)

    -- many, one after another
    pub all_keep : (ws : List (ℕ × Bool)) → AllByRecursion (λ w. has_box w.0 ≡ true) ws → (e f : Ends) → AreBoxes final externals has_box value e
        → WidensAll final externals ws e f → AreBoxes final externals has_box value f
    all_keep [] boxed e f boxes h = subst (λ (x : Ends). AreBoxes final externals has_box value x) h boxes
    all_keep (w ∷ ws) boxed e f boxes h = all_keep ws boxed.1 h.0 f (widening_keeps w boxed.0 e h.0 boxes h.1) h.2

    all_stay : (ws : List (ℕ × Bool)) → AllByRecursion (λ w. has_box w.0 ≡ true) ws → (e f : Ends) → AreBoxes final externals has_box value e
        → WidensAll final externals ws e f → (v : ℕ × Bool) → IsTightEnd final externals e v → IsTightEnd final externals f v
    all_stay [] boxed e f boxes h v tight = subst (λ (x : Ends). IsTightEnd final externals x v) h tight
    all_stay (w ∷ ws) boxed e f boxes h v tight =
        all_stay ws boxed.1 h.0 f (widening_keeps w boxed.0 e h.0 boxes h.1) h.2 v (tight_stays w boxed.0 e h.0 boxes h.1 v tight)

    pub all_tight : (ws : List (ℕ × Bool)) → AllByRecursion (λ w. has_box w.0 ≡ true) ws → (e f : Ends) → AreBoxes final externals has_box value e
        → WidensAll final externals ws e f → AllByRecursion (IsTightEnd final externals f) ws
    all_tight [] boxed e f boxes h = tt
    all_tight (w ∷ ws) boxed e f boxes h =
        let now = widening_keeps w boxed.0 e h.0 boxes h.1 in
        (all_stay ws boxed.1 h.0 f now h.2 w (widening_tight w e h.0 h.1), all_tight ws boxed.1 h.0 f now h.2)

-- boxes lie from 0 to the horizon, since the final bounds with z are at most the horizon arcs
pub box_range : (arcs : List Constraint) (joined : ℕ → ℕ → Bool) (final : ℕ → ℕ → ℤ) → AreFinals arcs joined final
    → (externals : List Constraint) (has_box : ℕ → Bool) (value : ℕ → ℤ) (e : Ends) → AreBoxes final externals has_box value e
    → (horizon : ℤ) (k : ℕ) → has_box k ≡ true
    → Contains arcs (record { from = record { 0 = 0 }; to = record { 0 = k }; bound = horizon })
    → Contains arcs (record { from = record { 0 = k }; to = record { 0 = 0 }; bound = pos 0 })
    → (pos 0 ≤ℤ e.lo k) × (e.lo k ≤ℤ e.hi k) × (e.hi k ≤ℤ horizon)
box_range arcs joined final finals externals has_box value e boxes horizon k boxed up down =
    let obey = finals_obey arcs joined final finals in
    let top = obey.arc (record { from = record { 0 = 0 }; to = record { 0 = k }; bound = horizon }) up in
    let bottom = obey.arc (record { from = record { 0 = k }; to = record { 0 = 0 }; bound = pos 0 }) down in
    let a = boxes.low k boxed in
    let b = boxes.low_value k boxed in
    let c = boxes.value_high k boxed in
    let d = boxes.high k boxed in
    (omega (arith, ints), omega (arith, ints), omega (arith, ints))
