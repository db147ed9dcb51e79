-- A label lowered to a number that some times allow, and the labels settled after it. Between the labels and numbers below them, at which each arc
-- holds too, lie the greater of these numbers and of the labels less by one amount for all: they have the lowered label just where it is wanted, and
-- where the two agree they agree with both. So nothing that is settled already moves.
use Rattle.std.proofs.Common.{◌≡◌, ◌≢◌, ℕ, ◌<◌, ℤ, pos, neg_ℤ, ◌-ℤ◌, ◌≤ℤ◌, List, length, set, ap, ⊎_elim, arith, length-set, get_or-set_same, get_or-set_other}
use Rattle.std.specs.Int.{int_max}
use Rattle.std.specs.List.{Contains}
use Rattle.std.proofs.lemmas.Int.{ints, clamps}
use Rattle.std.proofs.lemmas.Bool.{cases_eq}
use Rattle.stn_model.specs.Limits.{greatest_bound}
use Rattle.stn_model.specs.declared.ids.Constraint.{Constraint}
use Rattle.stn_model.specs.Arcs.{arc_at}
use Rattle.stn_model.specs.Schedules.{KeepsArcs, time_at}
use Rattle.dispatcher.specs.Falling.{Holds, IsArcAmong, IsSafe, Falls}

module _ (arcs : List Constraint) (labels : List ℤ) (known : List ℕ) (among : (n : ℕ) → n < length arcs → IsArcAmong known (length labels) (arc_at arcs n))
    (keeps : KeepsArcs arcs labels) (g : ℕ → ℤ) (holds : Holds arcs g)
    (under : (q : ℕ) → Contains known q → g q ≤ℤ time_at labels q) (deep : (q : ℕ) → Contains known q → neg_ℤ (pos greatest_bound) ≤ℤ g q)
    (high : (q : ℕ) → Contains known q → time_at labels q ≤ℤ pos greatest_bound)
    (p : ℕ) (there : Contains known p) (p_in : p < length labels) (t : ℤ) (above : g p ≤ℤ t) (below : t ≤ℤ time_at labels p) where
  -- the times between
  abbrev middle : ℕ → ℤ
  middle q = int_max (g q) (time_at labels q -ℤ (time_at labels p -ℤ t))

  middle_holds : Holds arcs middle
  middle_holds n lt = let x = holds n lt in let y = keeps n lt in omega (arith, ints, clamps)

  here : time_at (set labels p t) p ≡ t
  here = get_or-set_same labels p t (pos 0) p_in

  elsewhere : (x : ℕ) → x ≢ p → time_at (set labels p t) x ≡ time_at labels x
  elsewhere x e = get_or-set_other labels p x t (pos 0) e

  middle_under : (q : ℕ) → Contains known q → middle q ≤ℤ time_at (set labels p t) q
  middle_under q in_it = ⊎_elim
      (λ (e : q ≡ p).
      let a = ap g e in
      let b = ap (time_at labels) e in
      let c = ap (time_at (set labels p t)) e in
      let k = here in
      omega (arith, ints, clamps))
      (λ (e : q ≢ p). let k = elsewhere q e in let u = under q in_it in omega (arith, ints, clamps))
      (cases_eq q p)

  pub lowered_high : (q : ℕ) → time_at (set labels p t) q ≤ℤ time_at labels q
  lowered_high q = ⊎_elim
      (λ (e : q ≡ p). let b = ap (time_at labels) e in let c = ap (time_at (set labels p t)) e in let k = here in omega (arith, ints))
      (λ (e : q ≢ p). let k = elsewhere q e in omega (arith, ints))
      (cases_eq q p)

  -- so the lowered labels are safe
  pub lowered_safe : IsSafe arcs (set labels p t)
  lowered_safe = record {
    known = known;
    among = λ n lt. let a = among n lt in let e = length-set labels p t in record {
      from_known = a.from_known;
      to_known = a.to_known;
      from_in = let x = a.from_in in omega arith;
      to_in = let x = a.to_in in omega arith;
      low = a.low;
      high = a.high;
    };
    floor = middle;
    holds = middle_holds;
    deep = λ q in_it. let d = deep q in_it in omega (arith, ints, clamps);
    above = middle_under;
    high = λ q in_it. let a = lowered_high q in let h = high q in_it in omega (arith, ints);
  }

  module _ (new : List ℤ) (h : Falls arcs (set labels p t) new) where
    over : (q : ℕ) → Contains known q → middle q ≤ℤ time_at new q
    over = h.greatest known (λ n lt. ((among n lt).from_known, (among n lt).to_known)) middle middle_holds middle_under

    -- the lowered label is where it was put
    pub stays_here : time_at new p ≡ t
    stays_here = let o = over p there in let b = h.below p in let k = here in omega (arith, ints, clamps)

    -- a label that the numbers below it reach does not move
    pub stays_elsewhere : (q : ℕ) → Contains known q → g q ≡ time_at labels q → time_at new q ≡ time_at labels q
    stays_elsewhere q in_it e = let o = over q in_it in let b = h.below q in let k = lowered_high q in omega (arith, ints, clamps)

    -- no label fell below the numbers
    pub stays_over : (q : ℕ) → Contains known q → g q ≤ℤ time_at new q
    stays_over q in_it = let o = over q in_it in omega (arith, ints, clamps)

    -- times with that time there that were not above the labels are not above the new ones
    pub still_greatest : (f : ℕ → ℤ) → Holds arcs f → f p ≡ t → ((q : ℕ) → Contains known q → f q ≤ℤ time_at labels q)
        → (q : ℕ) → Contains known q → f q ≤ℤ time_at new q
    still_greatest f fits at less = h.greatest known (λ n lt. ((among n lt).from_known, (among n lt).to_known)) f fits
        (λ q in_it. ⊎_elim
        (λ (e : q ≡ p). let a = ap f e in let c = ap (time_at (set labels p t)) e in let k = here in omega (arith, ints))
        (λ (e : q ≢ p). let k = elsewhere q e in let u = less q in_it in omega (arith, ints))
        (cases_eq q p))
